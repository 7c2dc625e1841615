-- Rules 70 to 79: what a file needs to be an object, beside its tables' own rules, and the order of them all.
-- (gABI chapter 4: ELF Header, Sections, Symbol Table, Relocation, Section Groups.)
use Rattle.std.specs.Prelude.{◌≡◌, ◌≢◌, ℕ, ◌+◌, ◌*◌, ◌<◌, ◌⊎◌, true, false, Option, None, Some, List, [], ◌∷◌, ◌++◌, get_or, length, ◌↔◌}
use Rattle.std.specs.Prelude.{Bool, map}
use Rattle.std.specs.List.{range_with_len}
use Rattle.elf_field.specs.Abi.{ET_REL, E_ENTRY_AT, E_PHNUM_AT, E_TYPE_AT, SHF_INFO_LINK, SHT_DYNAMIC, SHT_DYNSYM, SHT_GROUP, SHT_HASH}
use Rattle.elf_field.specs.Abi.{SHT_SHLIB, SHT_SYMTAB, SHT_SYMTAB_SHNDX, SH_INFO_AT, SH_LINK_AT, SH_TYPE_AT, ST_SHNDX_AT, SYM_SIZE}
use Rattle.elf_field.specs.Abi.{WORD_SIZE}
use Rattle.elf_field.specs.declared.ehdr.Ehdr.{Ehdr}
use Rattle.elf_image_rules.specs.Rows.{AtEntry, Either, OfSome, Row, Ruled, When, rule}
use Rattle.elf_field.specs.Strings.{string}
use Rattle.elf_object_layout.specs.SectionsLeftOut.{is_kept, left_out, symbol_table}
use Rattle.elf_object_reader.specs.Denotes.{body_kind, kept, position_of}
use Rattle.elf_object_reader.specs.declared.file_rules.ReferenceRule.TheVariants.{WrongRelocationTarget, WrongKeptLink, WrongKeptInfo}
use Rattle.elf_object_reader.specs.declared.file_rules.ReferenceRule.{ReferenceRule}
use Rattle.elf_object_reader.specs.declared.object_file.BodyKind.TheVariants.{Bits, NoBits, Relocs, Group}
use Rattle.elf_object_reader.specs.declared.object_file.BodyKind.{BodyKind}
use Rattle.elf_object_layout.specs.declared.left_out.LeftOut.{LeftOut}
use Rattle.elf_object_reader.specs.declared.object_file.ObjectFile.{ObjectFile}
use Rattle.elf_object_type.specs.Object.{HasFlag}
use Rattle.elf_table_lists.specs.Groups.{group_section_rules, member, member_count}
use Rattle.elf_table_lists.specs.Relocations.{relocation_section_rules}
use Rattle.elf_table_symbols.specs.Sections.{Sections, content, count, header_at, order, section, sections_of}
use Rattle.elf_table_symbols.specs.SymbolView.{no_symbol_entry}
use Rattle.elf_table_symbols.specs.Symbols.{symbol_table_rules, symbols_of}
use Rattle.elf_table_symbols.specs.declared.symbols.Place.TheVariants.{Undefined, Absolute, Common, Reserved, Section}
use Rattle.elf_table_symbols.specs.declared.symbols.Place.{Place}

-- ---- rules 70 to 74: the header, and which sections there are

-- rule 70: the file is not a relocatable one
abbrev pub not_relocatable : Ehdr → Row ℕ
not_relocatable h = When (h.e_type ≢ ET_REL) E_TYPE_AT

-- rule 71: it has an entry point, or segments
abbrev pub loadable : Ehdr → Row ℕ
loadable h = Either (When (h.e_entry ≢ 0) E_ENTRY_AT ∷ When (h.e_phnum ≢ 0) E_PHNUM_AT ∷ [])

-- rule 72: a section is of a type that no object has
abbrev pub IsForeignType : ℕ → Type 0
IsForeignType type = (type ≡ SHT_HASH) ⊎ ((type ≡ SHT_DYNAMIC) ⊎ ((type ≡ SHT_SHLIB) ⊎ (type ≡ SHT_DYNSYM)))

abbrev pub foreign_section : Sections → Row ℕ
foreign_section f = AtEntry (count f) (λ i. IsForeignType (section f i).sh_type) (λ i. header_at f i + SH_TYPE_AT)

-- rule 73: a symbol table is after another
abbrev pub IsSecondSymbolTable : Sections → ℕ → Type 0
IsSecondSymbolTable f i =
    ((section f i).sh_type ≡ SHT_SYMTAB) × ((k : ℕ) × (k < i) × ((section f k).sh_type ≡ SHT_SYMTAB))

abbrev pub second_symbol_table : Sections → Row ℕ
second_symbol_table f = AtEntry (count f) (IsSecondSymbolTable f) (λ i. header_at f i + SH_TYPE_AT)

-- rule 74: an index table is not that of the symbol table
abbrev pub IsStrayIndexTable : Sections → ℕ → Type 0
IsStrayIndexTable f i = ((section f i).sh_type ≡ SHT_SYMTAB_SHNDX) × (symbol_table f ≢ Some (section f i).sh_link)

abbrev pub stray_index_table : Sections → Row ℕ
stray_index_table f = AtEntry (count f) (IsStrayIndexTable f) (λ i. header_at f i + SH_LINK_AT)

unfoldable pub front_rules : Sections → List {1} (Ruled ℕ)
front_rules f =
    rule 70 (not_relocatable f.header) ∷
    rule 71 (loadable f.header) ∷
    rule 72 (foreign_section f) ∷
    rule 73 (second_symbol_table f) ∷
    rule 74 (stray_index_table f) ∷ []

-- ---- rule 75, and the rules of tables

-- rule 75: a symbol is defined in a section that is left out, or at a reserved index that has no meaning here
abbrev pub IsSymbolOutside : LeftOut → Sections → Place → Type 0
IsSymbolOutside left f Undefined = ⊥
IsSymbolOutside left f Absolute = ⊥
IsSymbolOutside left f Common = ⊥
IsSymbolOutside left f (Reserved index) = Unit {0}
IsSymbolOutside left f (Section k) = is_kept left f k ≡ false

abbrev pub symbol_outside : LeftOut → Sections → ℕ → Row ℕ
symbol_outside left f t =
    let s = section f t in
    AtEntry (length (symbols_of f t))
    (λ j. IsSymbolOutside left f (get_or (symbols_of f t) j no_symbol_entry).place)
    (λ j. s.sh_offset + SYM_SIZE * j + ST_SHNDX_AT)

unfoldable pub symbol_outside_rules : LeftOut → Sections → Option ℕ → List {1} (Ruled ℕ)
symbol_outside_rules left f table = rule 75 (OfSome table (symbol_outside left f)) ∷ []

-- the rules of the symbol table, where there is one
abbrev pub rules_of_symbols : Sections → Option ℕ → List {1} (Ruled ℕ)
rules_of_symbols f None = []
rules_of_symbols f (Some t) = symbol_table_rules f t

-- those of the table in section i
abbrev pub rules_of_body : BodyKind → Sections → ℕ → List {1} (Ruled ℕ)
rules_of_body Bits f i = []
rules_of_body NoBits f i = []
rules_of_body Relocs f i = relocation_section_rules f i
rules_of_body Group f i = group_section_rules f i

-- those of the tables in these sections, one section after the other
abbrev pub rules_of_bodies : Sections → List ℕ → List {1} (Ruled ℕ)
rules_of_bodies f [] = []
rules_of_bodies f (i ∷ is) = rules_of_body (body_kind (section f i).sh_type) f i ++ rules_of_bodies f is

-- ---- rules 76 to 79: references from one section to another

-- section k is kept, and has bits
abbrev pub IsKeptBits : LeftOut → Sections → ℕ → Type 0
IsKeptBits left f k = (is_kept left f k ≡ true) × (body_kind (section f k).sh_type ≡ Bits)

-- rule 76: relocations apply to a section that is left out, or has no bits
abbrev pub HasWrongRelocationTarget : LeftOut → Sections → ℕ → Type 0
HasWrongRelocationTarget left f i = let s = section f i in (body_kind s.sh_type ≡ Relocs) × ¬ IsKeptBits left f s.sh_info

-- rule 77: a member of a group is left out, or a group itself, or a member of a group before
abbrev pub NamesFirst : Sections → ℕ → ℕ → ℕ → Type 0
NamesFirst f h count m = (k : ℕ) × (k < count) × (member (order f) (content f h) k ≡ m)

-- section m is a member of a group before section i
abbrev pub IsMemberBefore : Sections → ℕ → ℕ → Type 0
IsMemberBefore f i m = (h : ℕ) × (h < i) × (((section f h).sh_type ≡ SHT_GROUP) × NamesFirst f h (member_count (content f h)) m)

abbrev pub IsWrongGroupMember : LeftOut → Sections → ℕ → ℕ → Type 0
IsWrongGroupMember left f i m = (is_kept left f m ≡ false) ⊎ (((section f m).sh_type ≡ SHT_GROUP) ⊎ IsMemberBefore f i m)

abbrev pub wrong_group_member_of : LeftOut → Sections → ℕ → Row ℕ
wrong_group_member_of left f i =
    AtEntry (member_count (content f i))
    (λ j. IsWrongGroupMember left f i (member (order f) (content f i) j))
    (λ j. (section f i).sh_offset + WORD_SIZE * (j + 1))

-- in the groups among the first `end` sections, and in all
abbrev pub wrong_group_member_before : LeftOut → Sections → ℕ → Row ℕ
wrong_group_member_before left f end = λ x. (i : ℕ) × (i < end) × (((section f i).sh_type ≡ SHT_GROUP) × wrong_group_member_of left f i x)

abbrev pub wrong_group_member : LeftOut → Sections → Row ℕ
wrong_group_member left f = wrong_group_member_before left f (count f)

-- a section that is kept and has neither relocations nor members
abbrev pub IsPlain : LeftOut → Sections → ℕ → Type 0
IsPlain left f i =
    (is_kept left f i ≡ true) × (let kind = body_kind (section f i).sh_type in (kind ≡ Bits) ⊎ (kind ≡ NoBits))

-- rule 78: such a section links to one that is left out, or is not there
abbrev pub HasWrongKeptLink : LeftOut → Sections → ℕ → Type 0
HasWrongKeptLink left f i = let link = (section f i).sh_link in IsPlain left f i × ((link ≢ 0) × (is_kept left f link ≡ false))

-- rule 79: its flag INFO_LINK says that sh_info is a section, and that one is left out, or is not there
abbrev pub HasWrongKeptInfo : LeftOut → Sections → ℕ → Type 0
HasWrongKeptInfo left f i =
    let s = section f i in IsPlain left f i × (HasFlag s.sh_flags SHF_INFO_LINK × (is_kept left f s.sh_info ≡ false))

-- what breaks the rules on one section's references, and the offset in its section header of the field at which they are broken
abbrev pub BreaksReference : ReferenceRule → LeftOut → Sections → ℕ → Type 0
BreaksReference WrongRelocationTarget left f i = HasWrongRelocationTarget left f i
BreaksReference WrongKeptLink left f i = HasWrongKeptLink left f i
BreaksReference WrongKeptInfo left f i = HasWrongKeptInfo left f i

abbrev pub reference_field : ReferenceRule → ℕ
reference_field WrongRelocationTarget = SH_INFO_AT
reference_field WrongKeptLink = SH_LINK_AT
reference_field WrongKeptInfo = SH_INFO_AT

abbrev pub SomeReference : ReferenceRule → LeftOut → Sections → Row ℕ
SomeReference r left f = AtEntry (count f) (BreaksReference r left f) (λ i. header_at f i + reference_field r)

abbrev pub wrong_relocation_target : LeftOut → Sections → Row ℕ
wrong_relocation_target = SomeReference WrongRelocationTarget

abbrev pub wrong_kept_link : LeftOut → Sections → Row ℕ
wrong_kept_link = SomeReference WrongKeptLink

abbrev pub wrong_kept_info : LeftOut → Sections → Row ℕ
wrong_kept_info = SomeReference WrongKeptInfo

unfoldable pub reference_rules : LeftOut → Sections → List {1} (Ruled ℕ)
reference_rules left f =
    rule 76 (wrong_relocation_target left f) ∷
    rule 77 (wrong_group_member left f) ∷
    rule 78 (wrong_kept_link left f) ∷
    rule 79 (wrong_kept_info left f) ∷ []

-- ---- all of them, in the order in which they are tested

unfoldable pub symbol_rules_in : LeftOut → Sections → Option ℕ → List {1} (Ruled ℕ)
symbol_rules_in left f table = rules_of_symbols f table ++ symbol_outside_rules left f table

unfoldable pub rules_after_front : LeftOut → Sections → Option ℕ → List {1} (Ruled ℕ)
rules_after_front left f table = symbol_rules_in left f table ++ (rules_of_bodies f (kept left f) ++ reference_rules left f)

unfoldable pub file_rules : Sections → List {1} (Ruled ℕ)
file_rules f = front_rules f ++ rules_after_front (left_out f) f (symbol_table f)

-- Marks over the sections of a file: one for each section of which something holds.

pub record AreMarks (n : ℕ) (P : ℕ → Type 0) (marks : List Bool) : Type 0 where
  pub long : length marks ≡ n
  pub right : (m : ℕ) → m < n → (get_or marks m false ≡ true) ↔ P m

-- The file that is read as an object, as clauses name it.

-- its header, its section headers and the content of each section
abbrev pub sections_of_file : ObjectFile → Sections
sections_of_file file = sections_of file.image.now

-- What the code keeps of a file while it reads it: the positions of its sections, and where strings end.

-- for each section its position; the last one is that of any section that isn't there
pub record AreSectionPositions (left : LeftOut) (f : Sections) (positions : List ℕ) : Type 0 where
  pub long : length positions ≡ count f + 1
  pub right : positions ≡ map (position_of left f) (range_with_len 0 (count f + 1))

-- how many bytes of a string table are a block
abbrev pub BLOCK : ℕ
BLOCK = 4096

-- where the string ends that is at the beginning of a block
abbrev pub block_end : List ℕ → ℕ → ℕ
block_end table block = BLOCK * block + length (string table (BLOCK * block))
