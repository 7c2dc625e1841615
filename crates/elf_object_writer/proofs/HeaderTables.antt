-- The section headers of a written object.
use Rattle.std.proofs.Common.{◌≡◌, ◌<◌, ◌≤◌, ◌+◌, ◌*◌, ◌^◌, ℕ, Option, None, Some, List, length, map, get_or, inl, inr, sym, ap, subst, ◌∙◌}
use Rattle.std.proofs.Common.{arith, zero, suc, [], ◌∷◌, refl, ap₂, ◌-◌, Bool, true, false, ◌++◌}
use Rattle.std.proofs.lemmas.Bool.{cases_lt, ne_eqb}
use Rattle.std.proofs.lemmas.List.{get_or-map, length-map, map-append}
use Rattle.std.specs.Prelude.{All, Any, filter, codes, cond}
use Rattle.elf_field.specs.Abi.{SHT_NOBITS}
use Rattle.elf_field.specs.declared.shdr.Shdr.{Shdr}
use Rattle.elf_image_rules.specs.Tables.{no_section_header}
use Rattle.elf_object_strings.specs.StringTable.{name_offset}
use Rattle.elf_object_type.proofs.Public.{no_wrong_place, no_wrong_position, no_wrong_bits_type}
use Rattle.elf_object_type.specs.Object.{ObjectValue, SymbolValue, no_symbol, symbol_at, IsPast, BodyValue, bits, no_bits, relocs, group}
use Rattle.elf_object_type.specs.Object.{SectionValue, no_section, section_at, info_position}
use Rattle.elf_object_type.specs.ObjectRules.{place_position, HasWrongReference, IsWrongBitsType}
use Rattle.elf_object_type.specs.ObjectView.{symbol_value, section_value}
use Rattle.elf_object_type.specs.declared.parts.Section.{Section}
use Rattle.elf_object_type.specs.declared.parts.Symbol.{Symbol}
use Rattle.elf_object_type.specs.declared.relocations.Relocation.{Relocation}
use Rattle.elf_object_layout.proofs.Public.{few_sections, few_symbols, short_content}
use Rattle.elf_object_layout.proofs.Public.{own_below, own_found, bits_in_file}
use Rattle.elf_object_layout.specs.Laid.{index_of, section_header, section_size, body_type, is_local, own_info, own_section, strings_at}
use Rattle.elf_object_layout.specs.Laid.{section_headers, LayoutValue, PlainSection, plain_sections, section_names, sections_before_names}
use Rattle.elf_object_writer.specs.PlacedObject.{IsPlacedObject, PlacedValue, HasShortIndexes, HasShortNumbers, plain_section, IsSectionAt}
use Rattle.elf_object_writer.specs.declared.placed_object.PlacedSection.TheVariants.{Own, SymbolTable, Names}
use Rattle.elf_object_writer.specs.declared.placed_object.PlacedSection.{PlacedSection}

-- The position that a symbol's place names is there, by rule 8 of objects. A layout that is not too long has fewer than 2^31 sections, so
-- the index fits a field of 32 bits. The symbol table takes at most 2^30 bytes.

-- an index of one of so few fits
pub near_index : (p : Option ℕ) (n : ℕ) → n < 2 ^ 31 → (IsPast n p → ⊥) → index_of p < 2 ^ 32
near_index None n few here = omega arith
near_index (Some k) n few here = elim (cases_lt k n) [
  | inl lt ↦ omega arith
  | inr past ↦ absurd (here past)
]

-- symbol i, as code reads it
pub symbol_read : (o : ObjectValue) (symbols : List Symbol) (i : ℕ) (d : Symbol) → map symbol_value symbols ≡ o.symbols →
    i < length o.symbols →
    symbol_value (get_or symbols i d) ≡ symbol_at o i
symbol_read o symbols i d values lt =
    let many = length-map symbols symbol_value in
    let same = ap length values in
    sym (get_or-map symbol_value symbols i d no_symbol (omega arith)) ∙ ap (λ (ss : List SymbolValue). get_or ss i no_symbol) values

pub near_place : (p : PlacedValue) (symbols : List Symbol) (i : ℕ) (d : Symbol) → IsPlacedObject p →
    map symbol_value symbols ≡ p.object.symbols → i < length p.object.symbols →
    index_of (place_position (get_or symbols i d).place) < 2 ^ 32
near_place p symbols i d placed values lt =
    let o = p.object in
    let few = few_sections o p.layout placed.layout in
    let below = own_below o in
    subst (λ (s : SymbolValue). index_of (place_position s.place) < 2 ^ 32) (sym (symbol_read o symbols i d values lt))
    (near_index (place_position (symbol_at o i).place) (length o.sections) (omega arith) (no_wrong_place o placed.rules i lt))

pub counted_symbols : (p : PlacedValue) (symbols : List Symbol) → IsPlacedObject p → map symbol_value symbols ≡ p.object.symbols →
    24 * (length symbols + 1) ≤ 2 ^ 30
counted_symbols p symbols placed values =
    let few = few_symbols p.object p.layout placed.layout in
    let many = length-map symbols symbol_value in
    let same = ap length values in
    omega arith

-- The numbers of an object's own sections fit the fields of its file. Each position that a section names is there, by the rules of
-- objects, and there are fewer than 2^31 sections and symbols in a layout that is not too long.

-- a position below a small count
below_count : (k n : ℕ) → n < 2 ^ 31 → (n ≤ k → ⊥) → k + 1 < 2 ^ 32
below_count k n few here = near_index (Some k) n few here

-- an element that is there does not depend on what is used for a missing one
pub any_default : {A : Type 0} (xs : List A) (k : ℕ) (d e : A) → k < length xs → get_or xs k d ≡ get_or xs k e
any_default [] k d e lt = absurd (omega arith)
any_default (x ∷ xs) zero d e lt = refl
any_default (x ∷ xs) (suc k) d e lt = any_default xs k d e (omega arith)

-- what no element breaks, each keeps
each_here : {A : Type 0} (P : A → Type 0) (Q : A → Type 0) (xs : List A) → ((x : A) → (P x → ⊥) → Q x) → (Any P xs → ⊥) → All Q xs
each_here P Q xs from none = λ k d lt. from (get_or xs k d) (λ p. none (k, get_or xs k d, lt, any_default xs k (get_or xs k d) d lt, p))

short_indexes : (o : ObjectValue) (b : BodyValue) → length o.sections < 2 ^ 31 → length o.symbols < 2 ^ 31 → (HasWrongReference o b → ⊥) →
    HasShortIndexes b
short_indexes o (bits type content) few_s few_m right = tt
short_indexes o (no_bits size) few_s few_m right = tt
short_indexes o (relocs rela target entries) few_s few_m right = (
  below_count target (length o.sections) few_s (λ past. right (inl (inl past))),
  each_here (λ (r : Relocation). IsPast (length o.symbols) r.symbol) (λ r. index_of r.symbol < 2 ^ 32) entries
      (λ r here. near_index r.symbol (length o.symbols) few_m here) (λ past. right (inr past)),
)
short_indexes o (group comdat signature members) few_s few_m right = (
  below_count signature (length o.symbols) few_m (λ past. right (inl past)),
  each_here (λ (m : ℕ). length o.sections ≤ m) (λ m. m + 1 < 2 ^ 32) members (λ m here. below_count m (length o.sections) few_s here)
      (λ past. right (inr past)),
)

pub short_numbers : (p : PlacedValue) (i : ℕ) → IsPlacedObject p → i < length p.object.sections →
    HasShortNumbers p.object (section_at p.object i)
short_numbers p i placed lt =
    let o = p.object in
    let s = section_at o i in
    let few = few_sections o p.layout placed.layout in
    let below = own_below o in
    let symbols = few_symbols o p.layout placed.layout in
    let right = no_wrong_position o placed.rules i lt in
    record {
      right = no_wrong_bits_type o placed.rules i lt;
      link = near_index s.link (length o.sections) (omega arith) (λ past. right (inl past));
      info = near_index (info_position s.info) (length o.sections) (omega arith) (λ past. right (inr (inl past)));
      indexes = short_indexes o s.body (omega arith) (omega arith) (λ past. right (inr (inr past)));
      short = short_content o p.layout i (own_section o (section_at o i)) placed.layout (omega arith) (own_found o i _ lt);
    }

-- section i, as code reads it
pub section_read : (o : ObjectValue) (sections : List Section) (i : ℕ) (d : Section) → map section_value sections ≡ o.sections →
    i < length o.sections →
    section_value (get_or sections i d) ≡ section_at o i
section_read o sections i d values lt =
    let many = length-map sections section_value in
    let same = ap length values in
    sym (get_or-map section_value sections i d no_section (omega arith)) ∙ ap (λ (ss : List SectionValue). get_or ss i no_section) values

-- Section headers, field by field: what the code fills in is the header of the definition. This is shown for an own section with bits, and
-- for the symbol table. For any own section, it reduces to a header that has name, offset and size.

-- a header with a name, an offset and a size, and nothing else
abbrev pub begun : ℕ → ℕ → ℕ → Shdr
begun name offset size = record no_section_header { sh_name = name; sh_offset = offset; sh_size = size }

-- that of a section of its own with some fields apart
abbrev of_section : SectionValue → ℕ → ℕ → ℕ → ℕ → ℕ → ℕ → Shdr
of_section s offset name type size link info = record {
  sh_name = name;
  sh_type = type;
  sh_flags = s.flags;
  sh_addr = s.addr;
  sh_offset = offset;
  sh_size = size;
  sh_link = link;
  sh_info = info;
  sh_addralign = s.align;
  sh_entsize = s.entsize;
}

bits_size : (o : ObjectValue) (s : SectionValue) (b : BodyValue) (type : ℕ) (content : List ℕ) → s.body ≡ b → b ≡ bits type content →
    (IsWrongBitsType b → ⊥) →
    section_size (own_section o s) ≡ length (own_section o s).content
bits_size o s b type content is kind right =
    let at = is ∙ kind in
    let other = bits_in_file type content (subst (λ (c : BodyValue). IsWrongBitsType c → ⊥) kind right) in
    rw (at, ne_eqb type SHT_NOBITS other) refl

bits_fields : (o : ObjectValue) (s : SectionValue) (name_at : List ℕ → ℕ) (offset name type size link info : ℕ) → name ≡ name_at s.name →
    type ≡ body_type s.body →
    size ≡ section_size (own_section o s) → link ≡ (own_section o s).link → info ≡ (own_section o s).info →
    of_section s offset name type size link info ≡ section_header name_at (own_section o s) offset
bits_fields o s name_at offset name type size link info named typed sized linked informed =
    ap₂ (λ (n t : ℕ). of_section s offset n t size link info) named typed
    ∙ ap₂ (λ (z l : ℕ). of_section s offset (name_at s.name) (body_type s.body) z l info) sized linked
    ∙ ap (λ (i : ℕ). of_section s offset (name_at s.name) (body_type s.body) (section_size (own_section o s)) (own_section o s).link i)
    informed

pub bits_header : (o : ObjectValue) (s t : SectionValue) (type : ℕ) (content : List ℕ) (name_at : List ℕ → ℕ) (h : Shdr)
    (kind link info : ℕ) → t ≡ s → t.body ≡ bits type content →
    (IsWrongBitsType t.body → ⊥) → kind ≡ body_type t.body → link ≡ index_of t.link → info ≡ own_info t.info →
    h ≡ begun (name_at s.name) h.sh_offset (length (own_section o s).content) →
    of_section t h.sh_offset h.sh_name kind h.sh_size link info ≡ section_header name_at (own_section o s) h.sh_offset
bits_header o s t type content name_at h kind link info same body right typed linked informed is =
    let P : SectionValue → Type 0 = λ x. h ≡ begun (name_at x.name) h.sh_offset (length (own_section o x).content) →
    of_section t h.sh_offset h.sh_name kind h.sh_size link info ≡ section_header name_at (own_section o x) h.sh_offset in
    subst P same (λ begin. bits_fields o t name_at h.sh_offset h.sh_name kind h.sh_size link info
    (ap (λ (x : Shdr). x.sh_name) begin) typed
    (ap (λ (x : Shdr). x.sh_size) begin ∙ sym (bits_size o t t.body type content refl body right))
    (rw body linked) (rw body informed)) is

-- one of the object's own sections
pub own_header_read : (o : ObjectValue) (section : PlacedSection) (position : ℕ) (name offset size : ℕ) (h : Shdr) →
    section ≡ Own position →
    size ≡ length (plain_section o section).content →
    ((name_at : List ℕ → ℕ) →
    begun name offset size ≡ begun (name_at (section_at o position).name) offset (length (own_section o (section_at o position)).content) →
    h ≡ section_header name_at (own_section o (section_at o position)) offset) →
    (name_at : List ℕ → ℕ) → name ≡ name_at (plain_section o section).name → h ≡ section_header name_at (plain_section o section) offset
own_header_read o section position name offset size h is sized from name_at named =
    let P : PlacedSection → Type 0 = λ s. size ≡ length (plain_section o s).content → name ≡ name_at (plain_section o s).name →
    h ≡ section_header name_at (plain_section o s) offset in
    subst P (sym is) (λ z n. from name_at (ap₂ (λ (x y : ℕ). begun x offset y) n z)) sized named

-- the symbol table
pub symbols_header_read : (o : ObjectValue) (section : PlacedSection) (name offset size link info : ℕ) → section ≡ SymbolTable →
    size ≡ length (plain_section o section).content → link ≡ strings_at o → info ≡ 1 + length (filter is_local o.symbols) →
    (name_at : List ℕ → ℕ) → name ≡ name_at (plain_section o section).name →
    record (begun name offset size) { sh_type = 2; sh_link = link; sh_info = info; sh_addralign = 8; sh_entsize = 24 } ≡
    section_header name_at (plain_section o section) offset
symbols_header_read o section name offset size link info is sized linked informed name_at named =
    let made : ℕ → ℕ → ℕ → ℕ → Shdr =
    λ n z l i. record (begun n offset z) { sh_type = 2; sh_link = l; sh_info = i; sh_addralign = 8; sh_entsize = 24 } in
    let P : PlacedSection → Type 0 = λ s. size ≡ length (plain_section o s).content → name ≡ name_at (plain_section o s).name →
    made name size link info ≡ section_header name_at (plain_section o s) offset in
    subst P (sym is)
    (λ z n. ap₂ (λ (x y : ℕ). made x y link info) n z ∙
    ap₂ (λ (x y : ℕ). made (name_at (plain_section o SymbolTable).name) (length (plain_section o SymbolTable).content) x y) linked informed)
    sized named

-- The section header at position k is made of the section and the place at k, by induction on the list of sections (`header_found`). Its
-- name is the one at k in the list of all names. The code counts as many local symbols as the object's value has, by induction on the
-- symbols.

-- the name of a section is the one at its position in the list of all names
pub name_at_position : (o : ObjectValue) (k : ℕ) (d : PlainSection) → k < length (plain_sections o) →
    get_or (section_names o) k [] ≡ (get_or (plain_sections o) k d).name
unfolding section_names plain_sections
name_at_position o k d lt =
    let before = sections_before_names o in
    let all : map (λ (s : PlainSection). s.name) before ++ (codes ".shstrtab" ∷ []) ≡
    map (λ (s : PlainSection). s.name) (before ++ (plain_section o Names ∷ [])) =
    sym (map-append (λ (s : PlainSection). s.name) before (plain_section o Names ∷ [])) in
    ap (λ (names : List (List ℕ)). get_or names k []) all ∙
    get_or-map (λ (s : PlainSection). s.name) (before ++ (plain_section o Names ∷ [])) k d [] lt

pub length-headers : (name_at : List ℕ → ℕ) (sections : List PlainSection) (places : List ℕ) → length places ≡ length sections + 1 →
    length (section_headers name_at sections places) ≡ length sections
length-headers name_at [] places long = refl
length-headers name_at (s ∷ sections) [] long = absurd (omega arith)
length-headers name_at (s ∷ sections) (x ∷ places) long = ap suc (length-headers name_at sections places (omega arith))

pub header_found : (name_at : List ℕ → ℕ) (sections : List PlainSection) (places : List ℕ) (k : ℕ) (h : Shdr) (d : PlainSection) →
    length places ≡ length sections + 1 → k < length sections →
    get_or (section_headers name_at sections places) k h ≡ section_header name_at (get_or sections k d) (get_or places k 0)
header_found name_at [] places k h d long lt = absurd (omega arith)
header_found name_at (s ∷ sections) [] k h d long lt = absurd (omega arith)
header_found name_at (s ∷ sections) (x ∷ places) zero h d long lt = refl
header_found name_at (s ∷ sections) (x ∷ places) (suc k) h d long lt =
    header_found name_at sections places k h d (omega arith) (omega arith)

-- an entry after the first one
pub after_first : {A : Type 0} (x : A) (xs : List A) (i : ℕ) (d : A) → 0 < i → get_or (x ∷ xs) i d ≡ get_or xs (i - 1) d
after_first x xs zero d some = absurd (omega arith)
after_first x xs (suc i) d some = (let e : i ≡ suc i - 1 = omega arith in ap (λ (k : ℕ). get_or xs k d) e)

-- the header of the section that is at a position
pub header_read : (o : ObjectValue) (layout : LayoutValue) (k name place : ℕ) (s : PlacedSection) (h : Shdr) (d : PlainSection) →
    k < length (plain_sections o) → IsSectionAt o k s →
    name ≡ name_offset (section_names o) (get_or (section_names o) k []) → place ≡ get_or layout.places k 0 →
    ((name_at : List ℕ → ℕ) → name ≡ name_at (plain_section o s).name → h ≡ section_header name_at (plain_section o s) place) →
    h ≡ section_header (name_offset (section_names o)) (get_or (plain_sections o) k d) (get_or layout.places k 0)
header_read o layout k name place s h d lt at named placed is =
    let f = name_offset (section_names o) in
    let section : plain_section o s ≡ get_or (plain_sections o) k d = at.is ∙ any_default (plain_sections o) k (plain_section o s) d lt in
    is f (named ∙ ap f (name_at_position o k d lt ∙ ap (λ (p : PlainSection). p.name) (sym section)))
    ∙ ap₂ (λ (p : PlainSection) (x : ℕ). section_header f p x) section placed

local_more : (b : Bool) (x : Symbol) (xs : List Symbol) (y : SymbolValue) (ys : List SymbolValue) → length xs ≡ length ys →
    length (cond b (x ∷ xs) xs) ≡ length (cond b (y ∷ ys) ys)
local_more true x xs y ys same = ap suc same
local_more false x xs y ys same = same

pub local_symbols : (symbols : List Symbol) →
    length (filter (λ (s : Symbol). is_local (symbol_value s)) symbols) ≡ length (filter is_local (map symbol_value symbols))
local_symbols [] = refl
local_symbols (s ∷ symbols) = local_more (is_local (symbol_value s)) s _ (symbol_value s) _ (local_symbols symbols)

pub first_one : {A : Type 0} (x : A) (xs : List A) (i : ℕ) (d : A) → i ≡ 0 → get_or (x ∷ xs) i d ≡ x
first_one x xs zero d is = refl
first_one x xs (suc i) d is = absurd (omega arith)
