-- The sections of a written object, by their indexes. Section header p + 1 is that of the section at position p and has its place, by
-- induction on the sections; content p + 1 is the content of that section.
use Rattle.std.proofs.Common.{◌≡◌, ◌<◌, ◌+◌, ℕ, zero, suc, List, [], ◌∷◌, length, get_or, refl, ap, ◌∙◌, arith, ◌≤◌, ◌*◌, ◌^◌, ◌⊎◌, ◌||◌}
use Rattle.std.proofs.Common.{Bool, true, false, inl, inr, ◌≢◌, ◌-◌, Option, None, Some, sym, ap₂, subst}
use Rattle.std.proofs.lemmas.List.{get_or-map}
use Rattle.std.specs.Prelude.{not, filter, ◌==◌, ◌&&◌, if◌then◌else◌, Contains}
use Rattle.std.specs.List.{range_with_len}
use Rattle.std.specs.Cmp.Derive.{both_true}
use Rattle.std.proofs.lemmas.Bool.{cases_lt, eq-eqb, eqb-true, le-ltb, lt-ltb, ne_eqb, true≢false}
use Rattle.std.proofs.lemmas.List.FromFn.{length-range_with_len}
use Rattle.elf_extent.proofs.Public.{fits_length}
use Rattle.elf_field.specs.Abi.{SHN_LORESERVE, SHN_XINDEX, SHT_GROUP, SHT_NOBITS, SHT_NULL, SHT_REL, SHT_RELA, SHT_STRTAB, SHT_SYMTAB}
use Rattle.elf_field.specs.Abi.{SHT_SYMTAB_SHNDX}
use Rattle.elf_field.specs.declared.shdr.Shdr.{Shdr}
use Rattle.elf_image_rules.specs.Tables.{section_header_of, name_table}
use Rattle.elf_image_type.specs.WrittenFile.{first_header, long_number, short_index}
use Rattle.elf_object_file.specs.ObjectFile.{IsWrittenAt, written_sections}
use Rattle.elf_object_layout.proofs.Public.{and_true, first_found, first_missing, not_kept_past}
use Rattle.elf_object_layout.specs.SectionsLeftOut.{is_at, is_kept, left_out, symbol_indexes, symbol_strings, symbol_table}
use Rattle.elf_object_reader.specs.Denotes.{kept, position_of}
use Rattle.elf_object_layout.specs.declared.left_out.LeftOut.{LeftOut}
use Rattle.elf_object_strings.specs.StringTable.{name_offset, string_table}
use Rattle.elf_object_type.proofs.Public.{no_wrong_bits_type}
use Rattle.elf_object_type.specs.Object.{ObjectValue, BodyValue, bits, no_bits, relocs, group, section_at}
use Rattle.elf_object_type.specs.ObjectRules.{IsWrongBitsType, types_without_bits}
use Rattle.elf_object_layout.proofs.Public.{length-canonical_section_headers, length-layout_parts, no_plain, plain_at, content_end}
use Rattle.elf_object_layout.proofs.Public.{few_sections, few_symbols, own_below, short_names, short_strings, table_end, last_count}
use Rattle.elf_object_layout.proofs.Public.{last_sections, length-plain, plain_last, plain_own}
use Rattle.elf_object_layout.specs.Laid.{layout_parts, section_header, section_headers, PlainSection, name_table_at, plain_sections}
use Rattle.elf_object_layout.specs.Laid.{section_names, layout_bytes, IsLayoutOf, LayoutValue, symbol_names, body_type, has_index_table}
use Rattle.elf_object_layout.specs.Laid.{own_section, strings_at, symbol_table_at}
use Rattle.elf_table_symbols.specs.Sections.{content, count, section}
use Rattle.elf_table_symbols.specs.Symbols.{IsIndexTable, index_table}

-- ---- by position: section p has index p + 1

header_in : (name_at : List ℕ → ℕ) (sections : List PlainSection) (places : List ℕ) (p : ℕ) → p < length sections →
    length sections < length places →
    section_header_of (section_headers name_at sections places) p ≡ section_header name_at (get_or sections p no_plain) (get_or places p 0)
header_in name_at [] places p lt long = absurd (omega arith)
header_in name_at (s ∷ sections) [] p lt long = absurd (omega arith)
header_in name_at (s ∷ sections) (x ∷ places) zero lt long = refl
header_in name_at (s ∷ sections) (x ∷ places) (suc p) lt long = header_in name_at sections places p (omega arith) (omega arith)

pub length-places : (o : ObjectValue) (places : List ℕ) → IsWrittenAt o places → length places ≡ length (plain_sections o) + 1
length-places o places written =
    let many = fits_length (layout_parts (plain_sections o)) 64 places written.least.fits in
    many ∙ length-layout_parts (plain_sections o)

pub written_count : (o : ObjectValue) (places : List ℕ) → IsWrittenAt o places →
    count (written_sections o places) ≡ length (plain_sections o) + 1
unfolding written_sections
written_count o places written = let long = length-canonical_section_headers o places written.least.fits in omega arith

pub written_first : (o : ObjectValue) (places : List ℕ) → IsWrittenAt o places →
    section (written_sections o places) 0 ≡ first_header (length (plain_sections o) + 1) (name_table_at o)
unfolding written_sections
written_first o places written =
    ap (λ (n : ℕ). first_header (n + 1) (name_table_at o)) (length-canonical_section_headers o places written.least.fits)

pub written_section : (o : ObjectValue) (places : List ℕ) → IsWrittenAt o places → (p : ℕ) → p < length (plain_sections o) →
    section (written_sections o places) (suc p) ≡ section_header (name_offset (section_names o)) (plain_at o p) (get_or places p 0)
unfolding written_sections
written_section o places written p lt =
    let long = length-places o places written in
    header_in (name_offset (section_names o)) (plain_sections o) places p lt (omega arith)

pub written_content : (o : ObjectValue) (places : List ℕ) (p : ℕ) → p < length (plain_sections o) →
    content (written_sections o places) (suc p) ≡ (plain_at o p).content
unfolding written_sections
written_content o places p lt = get_or-map (λ (s : PlainSection). s.content) (plain_sections o) p no_plain [] lt

-- Nothing in a written object is longer than its file: no part ends after the end of the layout, which is at most 2^30 bytes. So there are
-- few sections and symbols, and both string tables are short.

abbrev layout_at : ObjectValue → List ℕ → LayoutValue
layout_at o places = record { places = places; file_len = length (layout_bytes o places) }

is_layout : (o : ObjectValue) (places : List ℕ) → IsWrittenAt o places → IsLayoutOf o (layout_at o places)
is_layout o places written =
    record { least = written.least; count = length-places o places written; file_len = refl; short = written.short }

pub table_short : (o : ObjectValue) (places : List ℕ) → IsWrittenAt o places →
    get_or places (length (plain_sections o)) 0 + 64 * (length (plain_sections o) + 1) ≤ 2 ^ 30
table_short o places written = table_end o (layout_at o places) (is_layout o places written)

pub content_short : (o : ObjectValue) (places : List ℕ) → IsWrittenAt o places → (p : ℕ) → p < length (plain_sections o) →
    get_or places p 0 + length (plain_at o p).content ≤ 2 ^ 30
content_short o places written p lt = content_end o (layout_at o places) p no_plain (is_layout o places written) lt

pub own_short : (o : ObjectValue) (places : List ℕ) → IsWrittenAt o places → length o.sections + 3 < 2 ^ 24
own_short o places written =
    let below = own_below o in
    let few = few_sections o (layout_at o places) (is_layout o places written) in
    omega arith

pub symbols_short : (o : ObjectValue) (places : List ℕ) → IsWrittenAt o places → 24 * (length o.symbols + 1) ≤ 2 ^ 30
symbols_short o places written = few_symbols o (layout_at o places) (is_layout o places written)

pub strings_short : (o : ObjectValue) (places : List ℕ) → IsWrittenAt o places → length (string_table (symbol_names o)) ≤ 2 ^ 30
strings_short o places written = short_strings o (layout_at o places) (is_layout o places written)

pub names_short : (o : ObjectValue) (places : List ℕ) → IsWrittenAt o places → length (string_table (section_names o)) ≤ 2 ^ 30
names_short o places written = short_names o (layout_at o places) (is_layout o places written)

-- A section is kept if none of six reasons leaves it out (`none_left_out`). It is not kept for any of these but index 0 (`one_left_out`).
-- If a test passes 1 to n and nothing else of a range from 0, its list is 1 to n. By induction on n: those that pass come first.

-- ---- six reasons to leave a section out

pub none_left_out : (a b c d e g : Bool) → a ≡ false → b ≡ false → c ≡ false → d ≡ false → e ≡ false → g ≡ false →
    not (a || (b || (c || (d || (e || g))))) ≡ true
none_left_out a b c d e g is_a is_b is_c is_d is_e is_g = rw (is_a, is_b, is_c, is_d, is_e, is_g) refl

pub one_left_out : (a b c d e g : Bool) → (a ≡ true) ⊎ ((c ≡ true) ⊎ ((d ≡ true) ⊎ ((e ≡ true) ⊎ (g ≡ true)))) →
    not (a || (b || (c || (d || (e || g))))) ≡ false
one_left_out true b c d e g is = refl
one_left_out false true c d e g is = refl
one_left_out false false true d e g is = refl
one_left_out false false false true e g is = refl
one_left_out false false false false true g is = refl
one_left_out false false false false false true is = refl
one_left_out false false false false false false (inl is) = cc
one_left_out false false false false false false (inr (inl is)) = cc
one_left_out false false false false false false (inr (inr (inl is))) = cc
one_left_out false false false false false false (inr (inr (inr (inl is)))) = cc
one_left_out false false false false false false (inr (inr (inr (inr is)))) = cc

-- ---- the indexes of the sections that are kept

filter_none : (test : ℕ → Bool) (a n : ℕ) → ((i : ℕ) → a ≤ i → i < a + n → test i ≡ false) → filter test (range_with_len a n) ≡ []
filter_none test a zero none = refl
filter_none test a (suc n) none =
    rw (none a (omega arith) (omega arith)) (filter_none test (a + 1) n (λ i above below. none i (omega arith) (omega arith)))

filter_front : (test : ℕ → Bool) (a n m : ℕ) → ((i : ℕ) → a ≤ i → i < a + n → test i ≡ true) →
    ((i : ℕ) → a + n ≤ i → i < a + n + m → test i ≡ false) →
    filter test (range_with_len a (n + m)) ≡ range_with_len a n
filter_front test a zero m passes fails =
    let same : zero + m ≡ m = omega arith in
    ap (λ (k : ℕ). filter test (range_with_len a k)) same ∙ filter_none test a m (λ i above below. fails i (omega arith) (omega arith))
filter_front test a (suc n) m passes fails =
    let same : suc n + m ≡ suc (n + m) = omega arith in
    let rest = filter_front test (a + 1) n m (λ i above below. passes i (omega arith) (omega arith))
    (λ i above below. fails i (omega arith) (omega arith)) in
    ap (λ (k : ℕ). filter test (range_with_len a k)) same ∙ rw (passes a (omega arith) (omega arith)) (ap (λ (is : List ℕ). a ∷ is) rest)

each_own : (test : ℕ → Bool) (n : ℕ) → ((p : ℕ) → p < n → test (suc p) ≡ true) → (i : ℕ) → 1 ≤ i → i < 1 + n → test i ≡ true
each_own test n own zero above below = absurd (omega arith)
each_own test n own (suc p) above below = own p (omega arith)

-- those that pass are 1 to n
pub filter_own : (test : ℕ → Bool) (n m : ℕ) → test 0 ≡ false → ((p : ℕ) → p < n → test (suc p) ≡ true) →
    ((i : ℕ) → n < i → i < 1 + n + m → test i ≡ false) →
    filter test (range_with_len 0 (suc (n + m))) ≡ range_with_len 1 n
filter_own test n m first own later =
    rw first (filter_front test 1 n m (each_own test n own) (λ i above below. later i (omega arith) below))

-- What an object keeps of the file that it is written as. Types of own sections go with a body, so the first symbol table and its index
-- table are those after them. These two and the string tables are left out, and they are last; so section p + 1 is kept, at position p.

-- ---- the section headers of the object's own sections, and of those after them

pub last_some : (far : Bool) → 2 < last_count far
last_some true = omega arith
last_some false = omega arith

pub written_own : (o : ObjectValue) (places : List ℕ) → IsWrittenAt o places → (p : ℕ) → p < length o.sections →
    section (written_sections o places) (suc p) ≡
    section_header (name_offset (section_names o)) (own_section o (section_at o p)) (get_or places p 0)
written_own o places written p lt =
    let many = length-plain o (has_index_table o) refl in
    let more = last_some (has_index_table o) in
    written_section o places written p (omega arith)
    ∙ ap (λ (s : PlainSection). section_header (name_offset (section_names o)) s (get_or places p 0)) (plain_own o p lt)

pub written_last : (o : ObjectValue) (places : List ℕ) → IsWrittenAt o places → (far : Bool) → has_index_table o ≡ far → (k : ℕ) →
    k < last_count far →
    section (written_sections o places) (symbol_table_at o + k) ≡
    section_header (name_offset (section_names o)) (get_or (last_sections o far) k no_plain) (get_or places (length o.sections + k) 0)
written_last o places written far is k lt =
    let many = length-plain o far is in
    let next : symbol_table_at o + k ≡ suc (length o.sections + k) = omega arith in
    ap (section (written_sections o places)) next ∙ written_section o places written (length o.sections + k) (omega arith)
    ∙ ap (λ (s : PlainSection). section_header (name_offset (section_names o)) s (get_or places (length o.sections + k) 0))
    (plain_last o far is k)

pub count_of_written : (o : ObjectValue) (places : List ℕ) → IsWrittenAt o places → (far : Bool) → has_index_table o ≡ far →
    count (written_sections o places) ≡ symbol_table_at o + last_count far
count_of_written o places written far is =
    let many = length-plain o far is in
    let all = written_count o places written in
    omega arith

-- ---- their types

-- a type that goes with no body
pub record IsNoBody (type : ℕ) : Type 0 where
  pub no_bits_type : Contains types_without_bits type
  pub not_no_bits : SHT_NOBITS ≢ type
  pub not_rela : SHT_RELA ≢ type
  pub not_rel : SHT_REL ≢ type
  pub not_group : SHT_GROUP ≢ type

null_no_body : IsNoBody SHT_NULL
null_no_body =
    record {
      no_bits_type = (0, omega arith, refl);
      not_no_bits = λ is. omega arith;
      not_rela = λ is. omega arith;
      not_rel =
          λ is. omega arith;
      not_group = λ is. omega arith;
    }

pub symbols_no_body : IsNoBody SHT_SYMTAB
symbols_no_body =
    record {
      no_bits_type = (1, omega arith, refl);
      not_no_bits = λ is. omega arith;
      not_rela = λ is. omega arith;
      not_rel =
          λ is. omega arith;
      not_group = λ is. omega arith;
    }

pub indexes_no_body : IsNoBody SHT_SYMTAB_SHNDX
indexes_no_body =
    record {
      no_bits_type = (10, omega arith, refl);
      not_no_bits = λ is. omega arith;
      not_rela = λ is. omega arith;
      not_rel =
          λ is. omega arith;
      not_group = λ is. omega arith;
    }

other_body : (type : ℕ) (b : BodyValue) → IsNoBody type → (IsWrongBitsType b → ⊥) → body_type b ≢ type
other_body type (bits own content) bodyless right = λ same. right (subst (Contains types_without_bits) (sym same) bodyless.no_bits_type)
other_body type (no_bits size) bodyless right = bodyless.not_no_bits
other_body type (relocs true target entries) bodyless right = bodyless.not_rela
other_body type (relocs false target entries) bodyless right = bodyless.not_rel
other_body type (group comdat signature members) bodyless right = bodyless.not_group

pub own_type : (o : ObjectValue) (places : List ℕ) (type : ℕ) → IsWrittenAt o places → IsNoBody type → (p : ℕ) → p < length o.sections →
    (section (written_sections o places) (suc p)).sh_type ≢ type
own_type o places type written bodyless p lt = λ same.
    let is = ap (λ (s : Shdr). s.sh_type) (written_own o places written p lt) in
    other_body type (section_at o p).body bodyless (no_wrong_bits_type o written.object p lt) (sym is ∙ same)

-- every own section has a type
pub own_typed : (o : ObjectValue) (places : List ℕ) → IsWrittenAt o places → (p : ℕ) → p < length o.sections →
    (section (written_sections o places) (suc p)).sh_type ≢ SHT_NULL
own_typed o places written p lt = own_type o places SHT_NULL written null_no_body p lt

-- no section before the symbol table has this type
before_symbols : (o : ObjectValue) (places : List ℕ) (type : ℕ) → IsWrittenAt o places → IsNoBody type → SHT_NULL ≢ type → (k : ℕ) →
    k < symbol_table_at o →
    (section (written_sections o places) k).sh_type ≢ type
before_symbols o places type written bodyless typed zero lt =
    λ same. typed (sym (ap (λ (s : Shdr). s.sh_type) (written_first o places written)) ∙ same)
before_symbols o places type written bodyless typed (suc p) lt = own_type o places type written bodyless p (omega arith)

type_at : (o : ObjectValue) (places : List ℕ) → IsWrittenAt o places → (far : Bool) → has_index_table o ≡ far → (k : ℕ) →
    k < last_count far →
    (section (written_sections o places) (symbol_table_at o + k)).sh_type ≡ (get_or (last_sections o far) k no_plain).type
type_at o places written far is k lt = ap (λ (s : Shdr). s.sh_type) (written_last o places written far is k lt)

-- ---- what is left out

first_last : (o : ObjectValue) (far : Bool) → (get_or (last_sections o far) 0 no_plain).type ≡ SHT_SYMTAB
unfolding last_sections
first_last o true = refl
first_last o false = refl

symbols_typed : (o : ObjectValue) (places : List ℕ) → IsWrittenAt o places →
    (section (written_sections o places) (symbol_table_at o)).sh_type ≡ SHT_SYMTAB
symbols_typed o places written =
    let more = last_some (has_index_table o) in
    let at : symbol_table_at o ≡ symbol_table_at o + 0 = omega arith in
    ap (λ (k : ℕ). (section (written_sections o places) k).sh_type) at
    ∙ type_at o places written (has_index_table o) refl 0 (omega arith) ∙ first_last o (has_index_table o)

symbols_there : (o : ObjectValue) (places : List ℕ) → IsWrittenAt o places → symbol_table_at o < count (written_sections o places)
symbols_there o places written =
    let more = last_some (has_index_table o) in
    let all = count_of_written o places written (has_index_table o) refl in
    omega arith

pub written_symbol_table : (o : ObjectValue) (places : List ℕ) → IsWrittenAt o places →
    symbol_table (written_sections o places) ≡ Some (symbol_table_at o)
unfolding symbol_table
written_symbol_table o places written =
    let f = written_sections o places in
    sym (first_found (λ (s : Shdr). s.sh_type == SHT_SYMTAB) f (λ k. (section f k).sh_type ≡ SHT_SYMTAB) (symbol_table_at o)
    (λ k is. eq-eqb _ _ is)
    (λ k test. eqb-true _ _ test) (symbols_there o places written)
    (λ k below same. before_symbols o places SHT_SYMTAB written symbols_no_body (λ is. omega arith) k below same)
    (symbols_typed o places written))

-- where there is an index table, it is the one section of its type; it is after the symbol table and is linked to it
second_last : (o : ObjectValue) → (get_or (last_sections o true) 1 no_plain).type ≡ SHT_SYMTAB_SHNDX
unfolding last_sections
second_last o = refl

second_linked : (o : ObjectValue) → (get_or (last_sections o true) 1 no_plain).link ≡ symbol_table_at o
unfolding last_sections
second_linked o = refl

is_index_table : (o : ObjectValue) (places : List ℕ) → IsWrittenAt o places → has_index_table o ≡ true →
    IsIndexTable (written_sections o places) (symbol_table_at o) (symbol_table_at o + 1)
is_index_table o places written is = (
  type_at o places written true is 1 (omega arith) ∙ second_last o,
  ap (λ (s : Shdr). s.sh_link) (written_last o places written true is 1 (omega arith)) ∙ second_linked o,
)

none_before : (o : ObjectValue) (places : List ℕ) → IsWrittenAt o places → (k : ℕ) → k < symbol_table_at o + 1 →
    IsIndexTable (written_sections o places) (symbol_table_at o) k → ⊥
none_before o places written k lt is = elim (cases_lt k (symbol_table_at o)) [
  | inl below ↦ before_symbols o places SHT_SYMTAB_SHNDX written indexes_no_body (λ same. omega arith) k below is.0
  | inr above ↦ (
      let same : k ≡ symbol_table_at o = omega arith in
      let both = sym (symbols_typed o places written) ∙ ap (λ (j : ℕ). (section (written_sections o places) j).sh_type) (sym same) ∙ is.0 in
      absurd (omega arith))
]

-- without one, none of the sections after the symbol table is of its type
strings_type : (o : ObjectValue) (k : ℕ) → 0 < k → k < 3 → (get_or (last_sections o false) k no_plain).type ≡ SHT_STRTAB
unfolding last_sections
strings_type o zero above lt = absurd (omega arith)
strings_type o (suc zero) above lt = refl
strings_type o (suc (suc zero)) above lt = refl
strings_type o (suc (suc (suc k))) above lt = absurd (omega arith)

none_at_all : (o : ObjectValue) (places : List ℕ) → IsWrittenAt o places → has_index_table o ≡ false → (k : ℕ) →
    k < count (written_sections o places) →
    IsIndexTable (written_sections o places) (symbol_table_at o) k → ⊥
none_at_all o places written is k lt found = elim (cases_lt k (symbol_table_at o + 1)) [
  | inl below ↦ none_before o places written k below found
  | inr above ↦ (
      let all = count_of_written o places written false is in
      let j = k - symbol_table_at o in
      let at : symbol_table_at o + j ≡ k = omega arith in
      let typed = sym (ap (λ (i : ℕ). (section (written_sections o places) i).sh_type) at) ∙
      type_at o places written false is j (omega arith) ∙ strings_type o j (omega arith) (omega arith) in
      let both = sym found.0 ∙ typed in
      absurd (omega arith))
]

index_table_is : (o : ObjectValue) (places : List ℕ) → IsWrittenAt o places → (far : Bool) → has_index_table o ≡ far →
    index_table (written_sections o places) (symbol_table_at o) ≡ (if far then Some (symbol_table_at o + 1) else None)
unfolding index_table
index_table_is o places written true is =
    let f = written_sections o places in
    let t = symbol_table_at o in
    let all = count_of_written o places written true is in
    sym (first_found (λ (s : Shdr). (s.sh_type == SHT_SYMTAB_SHNDX) && (s.sh_link == t)) f (IsIndexTable f t) (t + 1)
    (λ k has. both_true (eq-eqb _ _ has.0) (eq-eqb _ _ has.1))
    (λ k test. (let parts = and_true _ _ test in (eqb-true _ _ parts.0, eqb-true _ _ parts.1)))
    (omega arith) (none_before o places written) (is_index_table o places written is))
index_table_is o places written false is =
    let f = written_sections o places in
    let t = symbol_table_at o in
    sym (first_missing (λ (s : Shdr). (s.sh_type == SHT_SYMTAB_SHNDX) && (s.sh_link == t)) f (IsIndexTable f t)
    (λ k has. both_true (eq-eqb _ _ has.0) (eq-eqb _ _ has.1))
    (λ k test. (let parts = and_true _ _ test in (eqb-true _ _ parts.0, eqb-true _ _ parts.1)))
    (none_at_all o places written is))

pub written_index_table : (o : ObjectValue) (places : List ℕ) → IsWrittenAt o places →
    index_table (written_sections o places) (symbol_table_at o) ≡ (if has_index_table o then Some (symbol_table_at o + 1) else None)
written_index_table o places written = index_table_is o places written (has_index_table o) refl

-- the name table's index is read back, from the header or from section header 0
index_read : (index : ℕ) → (if short_index index == SHN_XINDEX then long_number index else short_index index) ≡ index
index_read index = elim (cases_lt index SHN_LORESERVE) [
  | inl below ↦ rw (lt-ltb index SHN_LORESERVE below, ne_eqb index SHN_XINDEX (λ same. omega arith)) refl
  | inr above ↦ rw (le-ltb index SHN_LORESERVE above) refl
]

pub written_name_table : (o : ObjectValue) (places : List ℕ) → IsWrittenAt o places →
    (let f = written_sections o places in name_table f.header (section f 0) ≡ name_table_at o)
unfolding written_sections
written_name_table o places written = index_read (name_table_at o)

-- the string table of the symbols
first_link : (o : ObjectValue) (far : Bool) → (get_or (last_sections o far) 0 no_plain).link ≡ strings_at o
unfolding last_sections
first_link o true = refl
first_link o false = refl

pub written_strings : (o : ObjectValue) (places : List ℕ) → IsWrittenAt o places →
    (section (written_sections o places) (symbol_table_at o)).sh_link ≡ strings_at o
written_strings o places written =
    let more = last_some (has_index_table o) in
    let at : symbol_table_at o ≡ symbol_table_at o + 0 = omega arith in
    ap (λ (k : ℕ). (section (written_sections o places) k).sh_link) at
    ∙ ap (λ (s : Shdr). s.sh_link) (written_last o places written (has_index_table o) refl 0 (omega arith)) ∙
    first_link o (has_index_table o)

-- these four
abbrev pub left_of : ObjectValue → LeftOut
left_of o = record {
  symbol_table = Some (symbol_table_at o);
  strings = Some (strings_at o);
  index_table = if has_index_table o then Some (symbol_table_at o + 1) else None;
  names = name_table_at o;
}

pub written_left_out : (o : ObjectValue) (places : List ℕ) → IsWrittenAt o places → left_out (written_sections o places) ≡ left_of o
written_left_out o places written =
    let f = written_sections o places in
    let t = symbol_table_at o in
    let table = written_symbol_table o places written in
    ap (λ (s : Option ℕ). let l : LeftOut =
    record {
      symbol_table = s;
      strings = symbol_strings f s;
      index_table = symbol_indexes f s;
      names =
          name_table f.header (section f 0);
    } in l) table
    ∙ ap₂ (λ (k n : ℕ). let l : LeftOut = record { symbol_table = Some t; strings = Some k; index_table = index_table f t; names = n } in l)
    (written_strings o places written) (written_name_table o places written)
    ∙ ap (λ (i : Option ℕ). let l : LeftOut =
    record { symbol_table = Some t; strings = Some (strings_at o); index_table = i; names = name_table_at o } in l)
    (written_index_table o places written)

-- ---- what is kept

no_index_table_at : (far : Bool) (t i : ℕ) → i < t → is_at (if far then Some t else None) i ≡ false
no_index_table_at true t i below = ne_eqb t i (λ same. omega arith)
no_index_table_at false t i below = refl

strings_after : (far : Bool) → 0 < (if far then 2 else 1)
strings_after true = omega arith
strings_after false = omega arith

own_kept : (o : ObjectValue) (places : List ℕ) → IsWrittenAt o places → (p : ℕ) → p < length o.sections →
    is_kept (left_of o) (written_sections o places) (suc p) ≡ true
unfolding is_kept
own_kept o places written p lt =
    let later = strings_after (has_index_table o) in
    none_left_out _ _ _ _ _ _
    (ne_eqb (section (written_sections o places) (suc p)).sh_type SHT_NULL (own_typed o places written p lt))
    (ne_eqb (suc p) 0 (λ same. omega arith))
    (ne_eqb (symbol_table_at o) (suc p) (λ same. omega arith))
    (ne_eqb (strings_at o) (suc p) (λ same. omega arith))
    (no_index_table_at (has_index_table o) (symbol_table_at o + 1) (suc p) (omega arith))
    (ne_eqb (name_table_at o) (suc p) (λ same. omega arith))

first_left_out : (o : ObjectValue) (places : List ℕ) → IsWrittenAt o places → is_kept (left_of o) (written_sections o places) 0 ≡ false
unfolding is_kept
first_left_out o places written = rw (ap (λ (s : Shdr). s.sh_type) (written_first o places written)) refl

-- one of the last sections is one of those that are left out
which_last : (t : ℕ) (far : Bool) (k : ℕ) → k < last_count far →
    ((t == t + k) ≡ true) ⊎ (((t + (if far then 2 else 1) == t + k) ≡ true) ⊎
    ((is_at (if far then Some (t + 1) else None) (t + k) ≡ true) ⊎ ((t + (if far then 2 else 1) + 1 == t + k) ≡ true)))
which_last t far zero lt = inl (eq-eqb t (t + 0) (omega arith))
which_last t true (suc zero) lt = inr (inr (inl (eq-eqb (t + 1) (t + 1) refl)))
which_last t true (suc (suc zero)) lt = inr (inl (eq-eqb (t + 2) (t + 2) refl))
which_last t true (suc (suc (suc zero))) lt = inr (inr (inr (eq-eqb (t + 2 + 1) (t + 3) (omega arith))))
which_last t true (suc (suc (suc (suc k)))) lt = absurd (omega arith)
which_last t false (suc zero) lt = inr (inl (eq-eqb (t + 1) (t + 1) refl))
which_last t false (suc (suc zero)) lt = inr (inr (inr (eq-eqb (t + 1 + 1) (t + 2) (omega arith))))
which_last t false (suc (suc (suc k))) lt = absurd (omega arith)

last_left_out : (o : ObjectValue) (places : List ℕ) (k : ℕ) → k < last_count (has_index_table o) →
    is_kept (left_of o) (written_sections o places) (symbol_table_at o + k) ≡ false
unfolding is_kept
last_left_out o places k lt =
    let i = symbol_table_at o + k in
    one_left_out ((section (written_sections o places) i).sh_type == SHT_NULL) (i == 0) (symbol_table_at o == i) (strings_at o == i) _
    (name_table_at o == i)
    (inr (which_last (symbol_table_at o) (has_index_table o) k lt))

after_left_out : (o : ObjectValue) (places : List ℕ) → IsWrittenAt o places → (i : ℕ) → length o.sections < i →
    is_kept (left_of o) (written_sections o places) i ≡ false
after_left_out o places written i above = elim (cases_lt i (count (written_sections o places))) [
  | inl below ↦ (
      let all = count_of_written o places written (has_index_table o) refl in
      let k = i - symbol_table_at o in
      let at : symbol_table_at o + k ≡ i = omega arith in
      subst (λ (j : ℕ). is_kept (left_of o) (written_sections o places) j ≡ false) at (last_left_out o places k (omega arith)))
  | inr past ↦ not_kept_past (left_of o) (written_sections o places) i past
]

-- the own sections are kept, and no other
pub own_is_kept : (o : ObjectValue) (places : List ℕ) → IsWrittenAt o places → (p : ℕ) → p < length o.sections →
    (let f = written_sections o places in is_kept (left_out f) f (suc p) ≡ true)
own_is_kept o places written p lt =
    ap (λ (left : LeftOut). is_kept left (written_sections o places) (suc p)) (written_left_out o places written) ∙
    own_kept o places written p lt

pub first_not_kept : (o : ObjectValue) (places : List ℕ) → IsWrittenAt o places →
    (let f = written_sections o places in is_kept (left_out f) f 0 ≡ false)
first_not_kept o places written =
    ap (λ (left : LeftOut). is_kept left (written_sections o places) 0) (written_left_out o places written) ∙
    first_left_out o places written

pub after_not_kept : (o : ObjectValue) (places : List ℕ) → IsWrittenAt o places → (i : ℕ) → length o.sections < i →
    (let f = written_sections o places in is_kept (left_out f) f i ≡ false)
after_not_kept o places written i above =
    ap (λ (left : LeftOut). is_kept left (written_sections o places) i) (written_left_out o places written) ∙
    after_left_out o places written i above

-- a section that is kept is the own section at some position
pub own_of_kept : (o : ObjectValue) (places : List ℕ) → IsWrittenAt o places → (i : ℕ) →
    (let f = written_sections o places in is_kept (left_out f) f i ≡ true) →
    (p : ℕ) × (p < length o.sections) × (i ≡ suc p)
own_of_kept o places written zero is = absurd (let both : true ≡ false = sym is ∙ first_not_kept o places written in true≢false both)
own_of_kept o places written (suc p) is = elim (cases_lt p (length o.sections)) [
  | inl below ↦ (p, below, refl)
  | inr above ↦ absurd (let both : true ≡ false = sym is ∙ after_not_kept o places written (suc p) (omega arith) in true≢false both)
]

-- ---- positions

-- the sections that are kept have the indexes 1 to the number of own sections
pub written_kept : (o : ObjectValue) (places : List ℕ) → IsWrittenAt o places →
    (let f = written_sections o places in kept (left_out f) f ≡ range_with_len 1 (length o.sections))
written_kept o places written =
    let f = written_sections o places in
    let test = is_kept (left_out f) f in
    let n = length o.sections in
    let all = count_of_written o places written (has_index_table o) refl in
    let same : count f ≡ suc (n + last_count (has_index_table o)) = omega arith in
    ap (λ (k : ℕ). filter test (range_with_len 0 k)) same
    ∙ filter_own test n (last_count (has_index_table o)) (first_not_kept o places written) (own_is_kept o places written)
    (λ i above below. after_not_kept o places written i above)

-- section p + 1 is at position p
pub written_position : (o : ObjectValue) (places : List ℕ) → IsWrittenAt o places → (p : ℕ) → p ≤ length o.sections →
    (let f = written_sections o places in position_of (left_out f) f (suc p) ≡ p)
written_position o places written p le =
    let f = written_sections o places in
    let test = is_kept (left_out f) f in
    let same : suc (p + 0) ≡ suc p = omega arith in
    let own = filter_own test p 0 (first_not_kept o places written) (λ q lt. own_is_kept o places written q (omega arith))
    (λ i above below. absurd (omega arith)) in
    sym (ap (position_of (left_out f) f) same) ∙ ap (λ (is : List ℕ). length is) own ∙ length-range_with_len 1 p
