-- Where names end in the string table that they were read from: of two with one end the longer one ends with the other (`tails_of_table`).
-- The name of symbol j is the string at the `st_name` of entry j + 1 of the symbol table, and that of a section the one at its `sh_name`.
use Rattle.std.proofs.Common.{◌≡◌, ℕ, ◌+◌, ◌-◌, ◌*◌, ◌<◌, ◌≤◌, Bool, true, false, zero, suc, List, [], ◌∷◌, Option, None, Some, inl, inr}
use Rattle.std.proofs.Common.{refl, sym, ap, subst, ◌∙◌, arith, get_or, length, map}
use Rattle.std.specs.Prelude.{◌||◌, if◌then◌else◌, nat_lt}
use Rattle.std.specs.List.{All, list_any}
use Rattle.std.proofs.lemmas.Bool.{cases_lt}
use Rattle.std.proofs.lemmas.List.{get_or_past, length-map}
use Rattle.std.proofs.lemmas.Simd.{map-map}
use Rattle.std.proofs.lemmas.List.Elements.{filter_passes}
use Rattle.std.proofs.lemmas.List.FromFn.{get_or-map-range_with_len, length-map-range_with_len}
use Rattle.elf_field.specs.Entries.{sym_at}
use Rattle.elf_image_rules.specs.Rules.{MAX_LEN}
use Rattle.elf_field.specs.Strings.{string}
use Rattle.elf_object_layout.specs.SectionsLeftOut.{is_kept, left_out, symbol_table}
use Rattle.elf_object_layout.specs.declared.left_out.LeftOut.{LeftOut}
use Rattle.elf_object_reader.specs.Denotes.{kept, section_denoted, section_name_of, section_name_table, symbols_denoted}
use Rattle.elf_object_reader.specs.NameEnds.{is_long, name_end, section_end, symbol_end, symbol_ends, useful_section_ends}
use Rattle.elf_object_reader.specs.NameEnds.{useful_symbol_ends}
use Rattle.elf_object_strings.proofs.Public.{tails_none, tails_of_table}
use Rattle.elf_object_strings.specs.StringTable.{AreEndsIn, AreTails}
use Rattle.elf_object_type.specs.Object.{SectionValue, SymbolValue}
use Rattle.elf_object_reader.proofs.DenotedSymbols.{name_denoted, names_of}
use Rattle.elf_object_reader.proofs.KeptTypes.{kept_not_null}
use Rattle.elf_table_symbols.specs.Sections.{Sections, content, order, section}
use Rattle.elf_table_symbols.specs.Symbols.{symbol_parts, symbols_of}

-- an end that is known
known_end : (offset : ℕ) (name : List ℕ) → 0 < name_end offset name → name_end offset name ≡ offset + length name + 1
known_end offset name some = by (nat_lt (offset + length name) MAX_LEN) some where
  by : (b : Bool) → 0 < (if b then offset + length name + 1 else 0) → (if b then offset + length name + 1 else 0) ≡ offset + length name + 1
  by true some = refl
  by false some = absurd (omega arith)

ends_denoted : (left : LeftOut) (f : Sections) (t : ℕ) →
    AreEndsIn (symbol_parts f t).names (names_of (symbols_denoted left f (Some t))) (symbol_ends f (Some t))
ends_denoted left f t i some =
    let n = length (symbols_of f t) - 1 in
    elim (cases_lt i n) [
      | inl lt ↦
          let offset = (sym_at (order f) (content f t) (24 * (1 + i))).st_name in
          let name = name_denoted left f t i lt in
          let is : get_or (symbol_ends f (Some t)) i 0 ≡ symbol_end f t (1 + i) =
          get_or-map-range_with_len (symbol_end f t) 1 n i (1 + i) 0 lt refl in
          let known = known_end offset (string (symbol_parts f t).names offset) (subst (λ (e : ℕ). 0 < e) is some) in
          (offset, name, is ∙ known ∙ ap (λ (s : List ℕ). offset + length s + 1) (sym name))
      | inr past ↦
          let none : get_or (symbol_ends f (Some t)) i 0 ≡ 0 =
          get_or_past (symbol_ends f (Some t)) i 0 (omega (arith, length-map-range_with_len (symbol_end f t) 1 n)) in
          absurd (omega arith)
    ]

tails_of_symbols : (left : LeftOut) (f : Sections) (t : Option ℕ) → AreTails (names_of (symbols_denoted left f t)) (symbol_ends f t)
tails_of_symbols left f None = tails_none []
tails_of_symbols left f (Some t) =
    tails_of_table (symbol_parts f t).names (names_of (symbols_denoted left f (Some t))) (symbol_ends f (Some t)) (ends_denoted left f t)

tails_denoted : (f : Sections) (symbols : List SymbolValue) → symbols ≡ symbols_denoted (left_out f) f (symbol_table f) →
    AreTails (names_of symbols) (symbol_ends f (symbol_table f))
tails_denoted f symbols are =
    subst (λ (these : List SymbolValue). AreTails (names_of these) (symbol_ends f (symbol_table f))) (sym are)
    (tails_of_symbols (left_out f) f (symbol_table f))

pub useful_tails : (f : Sections) (symbols : List SymbolValue) → symbols ≡ symbols_denoted (left_out f) f (symbol_table f) →
    AreTails (names_of symbols) (useful_symbol_ends symbols f)
useful_tails f symbols are = by (list_any (λ (s : SymbolValue). is_long s.name) symbols) where
  by : (b : Bool) → AreTails (names_of symbols) (if b then symbol_ends f (symbol_table f) else [])
  by true = tails_denoted f symbols are
  by false = tails_none (names_of symbols)

-- the ends are those of all names, or none
pub useful_all : (symbols : List SymbolValue) (f : Sections) → list_any (λ (s : SymbolValue). is_long s.name) symbols ≡ true →
    useful_symbol_ends symbols f ≡ symbol_ends f (symbol_table f)
useful_all symbols f is = rw is refl

pub useful_none : (symbols : List SymbolValue) (f : Sections) → list_any (λ (s : SymbolValue). is_long s.name) symbols ≡ false →
    useful_symbol_ends symbols f ≡ []
useful_none symbols f is = rw is refl

-- a test of the images of a list
pub list_any_of_map : {X Y : Type 0} (p : Y → Bool) (f : X → Y) (xs : List X) → list_any p (map f xs) ≡ list_any (λ x. p (f x)) xs
list_any_of_map p f [] = refl
list_any_of_map p f (x ∷ xs) = ap (λ b. p (f x) || b) (list_any_of_map p f xs)

-- ---- sections

abbrev pub section_names_of : List SectionValue → List (List ℕ)
section_names_of sections = map (λ (s : SectionValue). s.name) sections

-- the name of a section that is kept is a string of the section name string table
pub name_in_table : (left : LeftOut) (f : Sections) (i : ℕ) → is_kept left f i ≡ true →
    section_name_of f i ≡ string (section_name_table f) (section f i).sh_name
name_in_table left f i is = rw (kept_not_null left f i is) refl

ends_in_table : (left : LeftOut) (f : Sections) (indexes : List ℕ) → All (λ i. is_kept left f i ≡ true) indexes →
    AreEndsIn (section_name_table f) (map (section_name_of f) indexes) (map (section_end f) indexes)
ends_in_table left f [] all q some = absurd (omega arith)
ends_in_table left f (i ∷ indexes) all zero some =
    let name = name_in_table left f i (all 0 0 (omega arith)) in
    ((section f i).sh_name, name, known_end (section f i).sh_name (section_name_of f i) some)
ends_in_table left f (i ∷ indexes) all (suc q) some = ends_in_table left f indexes (λ k d lt. all (suc k) d (omega arith)) q some

-- the names of the sections that are kept
names_kept : (left : LeftOut) (f : Sections) (indexes : List ℕ) →
    section_names_of (map (section_denoted left f) indexes) ≡ map (section_name_of f) indexes
unfolding section_denoted
names_kept left f indexes = map-map (λ (s : SectionValue). s.name) (section_denoted left f) indexes

section_tails : (left : LeftOut) (f : Sections) (sections : List SectionValue) → sections ≡ map (section_denoted left f) (kept left f) →
    AreTails (section_names_of sections) (map (section_end f) (kept left f))
section_tails left f sections are =
    let names : section_names_of sections ≡ map (section_name_of f) (kept left f) =
    ap section_names_of are ∙ names_kept left f (kept left f) in
    subst (λ (ns : List (List ℕ)). AreTails ns (map (section_end f) (kept left f))) (sym names)
    (tails_of_table (section_name_table f) _ _ (ends_in_table left f (kept left f) (filter_passes (is_kept left f) _)))

pub useful_section_tails : (left : LeftOut) (f : Sections) (sections : List SectionValue) →
    sections ≡ map (section_denoted left f) (kept left f) → AreTails (section_names_of sections) (useful_section_ends sections left f)
useful_section_tails left f sections are = by (list_any (λ (s : SectionValue). is_long s.name) sections) where
  by : (b : Bool) → AreTails (section_names_of sections) (if b then map (section_end f) (kept left f) else [])
  by true = section_tails left f sections are
  by false = tails_none (section_names_of sections)

-- no more ends than sections
pub useful_section_fits : (left : LeftOut) (f : Sections) (sections : List SectionValue) →
    sections ≡ map (section_denoted left f) (kept left f) → length (useful_section_ends sections left f) ≤ length sections
useful_section_fits left f sections are = by (list_any (λ (s : SectionValue). is_long s.name) sections) where
  many : length sections ≡ length (kept left f)
  many = ap (λ (ss : List SectionValue). length ss) are ∙ length-map (kept left f) (section_denoted left f)

  by : (b : Bool) → length (if b then map (section_end f) (kept left f) else []) ≤ length sections
  by true = omega (arith, many, length-map (kept left f) (section_end f))
  by false = omega arith

-- the ends are those of all names, or none
pub section_all : (sections : List SectionValue) (left : LeftOut) (f : Sections) →
    list_any (λ (s : SectionValue). is_long s.name) sections ≡ true →
    useful_section_ends sections left f ≡ map (section_end f) (kept left f)
section_all sections left f is = rw is refl

pub section_none : (sections : List SectionValue) (left : LeftOut) (f : Sections) →
    list_any (λ (s : SectionValue). is_long s.name) sections ≡ false →
    useful_section_ends sections left f ≡ []
section_none sections left f is = rw is refl
