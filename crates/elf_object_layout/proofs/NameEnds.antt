-- The ends of the names of an object, in the lists that its string tables are made of. After the names of its own sections come four that
-- have no ends: of two names with one end, which is not 0, both are among the first ones.
use Rattle.std.proofs.Common.{◌≡◌, ◌≤◌, ◌<◌, ◌++◌, ℕ, List, [], get_or, length, map, inl, inr, refl, sym, subst, arith}
use Rattle.std.proofs.lemmas.Bool.{cases_lt}
use Rattle.std.proofs.lemmas.List.{get_or_append_left, get_or_past, length-map}
use Rattle.elf_object_layout.specs.Laid.{has_index_table, section_names}
use Rattle.elf_object_layout.specs.StringTables.{last_names}
use Rattle.elf_object_layout.proofs.PlainSections.{section_names_are}
use Rattle.elf_object_strings.specs.StringTable.{AreTails}
use Rattle.elf_object_type.specs.Object.{ObjectValue, SectionValue}

known_first : (ends : List ℕ) (i : ℕ) → 0 < get_or ends i 0 → i < length ends
known_first ends i some = elim (cases_lt i (length ends)) [
  | inl lt ↦ lt
  | inr past ↦ (let none : get_or ends i 0 ≡ 0 = get_or_past ends i 0 (omega arith) in absurd (omega arith))
]

tails_of_more : (names more : List (List ℕ)) (ends : List ℕ) → AreTails names ends → length ends ≤ length names →
    AreTails (names ++ more) ends
tails_of_more names more ends tails fits i j some one =
    let first = known_first ends i some in
    let second = known_first ends j (subst (λ (e : ℕ). 0 < e) one some) in
    let own : get_or (names ++ more) i [] ≡ get_or names i [] = get_or_append_left names more [] i (omega arith) in
    let other : get_or (names ++ more) j [] ≡ get_or names j [] = get_or_append_left names more [] j (omega arith) in
    rw (own, other) (tails i j some one)

-- the ends of an object's sections are those of the names in the section name string table
pub section_tails : (o : ObjectValue) (ends : List ℕ) → AreTails (map (λ (s : SectionValue). s.name) o.sections) ends →
    length ends ≤ length o.sections → AreTails (section_names o) ends
section_tails o ends tails fits =
    let many = length-map o.sections (λ (s : SectionValue). s.name) in
    subst (λ (names : List (List ℕ)). AreTails names ends) (sym (section_names_are o (has_index_table o) refl))
    (tails_of_more (map (λ (s : SectionValue). s.name) o.sections) (last_names (has_index_table o)) ends tails (omega arith))
