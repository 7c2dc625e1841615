-- An object without some of its sections: what stays, its new positions, and the first reference that refuses it. (gABI chapter 4,
-- Sections: sh_link, sh_info; Symbol Table: st_shndx; Relocation; Section Groups.)
use Rattle.std.specs.Prelude.{◌≡◌, ◌<◌, ◌≤◌, ◌+◌, ◌⊎◌, ℕ, Bool, false, true, not, List, [], filter, get_or, length, map, Option, None, Some}
use Rattle.std.specs.List.{range_with_len, slice_get}
use Rattle.std.specs.Option.{option_map}
use Rattle.elf_object_edit.specs.declared.fault.Reference.TheVariants.{Link, Info, Target, Symbol, Signature, Member}
use Rattle.elf_object_edit.specs.declared.fault.Reference.{Reference}
use Rattle.elf_object_edit.specs.declared.fault.WithoutFault.TheVariants.{Dangling, OutOfMemory}
use Rattle.elf_object_edit.specs.declared.fault.WithoutFault.{WithoutFault}
use Rattle.elf_object_type.specs.Object.{BodyValue, bits, no_bits, relocs, group, ObjectValue, SectionValue, SymbolValue, section_at}
use Rattle.elf_object_type.specs.Object.{symbol_at}
use Rattle.elf_object_type.specs.Object.{info_position, members_of, no_relocation}
use Rattle.elf_object_type.specs.declared.parts.Info.TheVariants.{Number, Section}
use Rattle.elf_object_type.specs.declared.parts.Place.TheVariants.{Undef, Abs, Common, In}
use Rattle.elf_object_type.specs.declared.parts.Place.{Place}
use Rattle.elf_object_type.specs.declared.relocations.Relocation.{Relocation}
use Rattle.elf_object_type.specs.declared.parts.Info as info

-- Which sections and symbols stay: a mark for each, by position.

-- the one at position p is there, and stays
abbrev pub stays : List Bool → ℕ → Bool
stays marks p = get_or marks p false

-- a section stays unless it is to be left out
abbrev pub staying_sections : ObjectValue → List Bool → List Bool
staying_sections o left_out = map (λ p. not (get_or left_out p false)) (range_with_len 0 (length o.sections))

-- a symbol stays unless it is defined in a section that does not
abbrev pub has_staying_place : List Bool → Place → Bool
has_staying_place sections Undef = true
has_staying_place sections Abs = true
has_staying_place sections Common = true
has_staying_place sections (In p) = stays sections p

abbrev pub staying_symbols : ObjectValue → List Bool → List Bool
staying_symbols o sections = map (λ symbol. has_staying_place sections symbol.place) o.symbols

-- What stays keeps its order.

-- the positions that stay, ascending
abbrev pub staying : List Bool → List ℕ
staying marks = filter (stays marks) (range_with_len 0 (length marks))

-- the new position: how many before it stay
abbrev pub new_position : List Bool → ℕ → ℕ
new_position marks p = length (filter (stays marks) (range_with_len 0 p))

-- Sections and symbols with new positions, where these sections and these symbols stay.

abbrev pub moved_info : List Bool → info.Info → info.Info
moved_info sections (Number number) = Number number
moved_info sections (Section p) = Section (new_position sections p)

abbrev pub moved_relocation : List Bool → Relocation → Relocation
moved_relocation symbols r = record {
  offset = r.offset;
  symbol = option_map (new_position symbols) r.symbol;
  kind = r.kind;
  addend = r.addend;
}

abbrev pub moved_body : List Bool → List Bool → BodyValue → BodyValue
moved_body sections symbols (bits type content) = bits type content
moved_body sections symbols (no_bits size) = no_bits size
moved_body sections symbols (relocs rela target entries) =
    relocs rela (new_position sections target) (map (moved_relocation symbols) entries)
moved_body sections symbols (group comdat signature members) =
    group comdat (new_position symbols signature) (map (new_position sections) members)

abbrev pub moved_section : List Bool → List Bool → SectionValue → SectionValue
moved_section sections symbols s = record {
  name = s.name;
  flags = s.flags;
  addr = s.addr;
  align = s.align;
  entsize = s.entsize;
  link = option_map (new_position sections) s.link;
  info = moved_info sections s.info;
  body = moved_body sections symbols s.body;
}

abbrev pub moved_place : List Bool → Place → Place
moved_place sections Undef = Undef
moved_place sections Abs = Abs
moved_place sections Common = Common
moved_place sections (In p) = In (new_position sections p)

abbrev pub moved_symbol : List Bool → SymbolValue → SymbolValue
moved_symbol sections s = record {
  name = s.name;
  info = s.info;
  other = s.other;
  place = moved_place sections s.place;
  value = s.value;
  size = s.size;
}

-- the sections and symbols that stay, each with its new positions
abbrev pub with_staying : ObjectValue → List Bool → List Bool → ObjectValue
with_staying o sections symbols = record {
  order = o.order;
  osabi = o.osabi;
  abi = o.abi;
  machine = o.machine;
  flags = o.flags;
  sections = map (λ p. moved_section sections symbols (section_at o p)) (staying sections);
  symbols = map (λ k. moved_symbol sections (symbol_at o k)) (staying symbols);
}

-- the object without these sections, and without the symbols that are defined in them
unfoldable pub object_without : ObjectValue → List Bool → ObjectValue
object_without o left_out = let sections = staying_sections o left_out in with_staying o sections (staying_symbols o sections)

-- What refuses it: a section that stays refers to a section or a symbol that does not.

-- the section that a body's relocations apply to, the relocations, and the signature symbol of a group
abbrev pub body_target : BodyValue → Option ℕ
body_target (bits type content) = None
body_target (no_bits size) = None
body_target (relocs rela target entries) = Some target
body_target (group comdat signature members) = None

abbrev pub body_entries : BodyValue → List Relocation
body_entries (bits type content) = []
body_entries (no_bits size) = []
body_entries (relocs rela target entries) = entries
body_entries (group comdat signature members) = []

abbrev pub body_signature : BodyValue → Option ℕ
body_signature (bits type content) = None
body_signature (no_bits size) = None
body_signature (relocs rela target entries) = None
body_signature (group comdat signature members) = Some signature

-- the section that a reference names, and the symbol: each names one of these at most
abbrev pub named_section : SectionValue → Reference → Option ℕ
named_section s Link = s.link
named_section s Info = info_position s.info
named_section s Target = body_target s.body
named_section s (Symbol j) = None
named_section s Signature = None
named_section s (Member j) = slice_get (members_of s.body) j

abbrev pub named_symbol : SectionValue → Reference → Option ℕ
named_symbol s Link = None
named_symbol s Info = None
named_symbol s Target = None
named_symbol s (Symbol j) = (get_or (body_entries s.body) j no_relocation).symbol
named_symbol s Signature = body_signature s.body
named_symbol s (Member j) = None

-- what is named does not stay
abbrev pub IsLeftOut : List Bool → Option ℕ → Type 0
IsLeftOut marks None = ⊥
IsLeftOut marks (Some p) = stays marks p ≡ false

abbrev pub Dangles : List Bool → List Bool → SectionValue → Reference → Type 0
Dangles sections symbols s r = IsLeftOut sections (named_section s r) ⊎ IsLeftOut symbols (named_symbol s r)

-- section i stays, and this reference of it names what does not
abbrev pub IsDangling : ObjectValue → List Bool → List Bool → ℕ → Reference → Type 0
IsDangling o sections symbols i r = (stays sections i ≡ true) × Dangles sections symbols (section_at o i) r

-- the order of a section's references
abbrev pub rank : Reference → ℕ
rank Link = 0
rank Info = 1
rank Target = 2
rank (Symbol j) = 3 + j
rank Signature = 2
rank (Member j) = 3 + j

-- any other such reference is in a later section, or in the same one and not before it
pub record IsFirstDangling (o : ObjectValue) (sections symbols : List Bool) (i : ℕ) (r : Reference) : Type 0 where
  pub dangling : IsDangling o sections symbols i r
  pub first : (h : ℕ) (q : Reference) → IsDangling o sections symbols h q → (i < h) ⊎ ((i ≡ h) × (rank r ≤ rank q))

abbrev pub NoneDangles : ObjectValue → List Bool → List Bool → Type 0
NoneDangles o sections symbols = (h : ℕ) (q : Reference) → IsDangling o sections symbols h q → ⊥

-- no section that stays refers to one of these, or to a symbol in one
abbrev pub AreUnneeded : ObjectValue → List Bool → Type 0
AreUnneeded o left_out = let sections = staying_sections o left_out in NoneDangles o sections (staying_symbols o sections)

-- the first reference to one of these, or to a symbol in one; out of memory says nothing
abbrev pub IsWithoutFault : ObjectValue → List Bool → WithoutFault → Type 0
IsWithoutFault o left_out (Dangling i r) =
    let sections = staying_sections o left_out in IsFirstDangling o sections (staying_symbols o sections) i r
IsWithoutFault o left_out OutOfMemory = Unit {0}

-- What the code has, and finds.

-- one new position for each position, and a last one for any position that is not there
pub record ArePositions (marks : List Bool) (positions : List ℕ) : Type 0 where
  pub long : length positions ≡ length marks + 1
  pub right : positions ≡ map (new_position marks) (range_with_len 0 (length marks + 1))

-- where names end, of those that stay; none, if that is not known of any
abbrev pub moved_ends : List Bool → List ℕ → List ℕ
moved_ends marks ends = map (λ k. get_or ends k 0) (staying marks)

abbrev pub AreMovedEnds : List Bool → List ℕ → List ℕ → Type 0
AreMovedEnds marks ends moved = (moved ≡ []) ⊎ (moved ≡ moved_ends marks ends)

-- the lowest index with this property, or none
abbrev pub IsLowestIndex : (ℕ → Type 0) → Option ℕ → Type 0
IsLowestIndex P None = (k : ℕ) → P k → ⊥
IsLowestIndex P (Some j) = P j × ((k : ℕ) → P k → j ≤ k)

-- the first reference of a section that dangles, or none
abbrev pub IsFirstReference : List Bool → List Bool → SectionValue → Option Reference → Type 0
IsFirstReference sections symbols s None = (q : Reference) → Dangles sections symbols s q → ⊥
IsFirstReference sections symbols s (Some r) =
    Dangles sections symbols s r × ((q : Reference) → Dangles sections symbols s q → rank r ≤ rank q)
