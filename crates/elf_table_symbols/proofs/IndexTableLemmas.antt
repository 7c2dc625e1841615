-- The index tables of a symbol table, found section by section. The first two are noted; a section that is none changes nothing. So at the
-- end the two are the lowest ones, and the first is `index_table` of the definition.
use Rattle.std.proofs.Common.{◌≡◌, ℕ, ◌+◌, ◌<◌, Bool, true, false, Option, None, Some, List, length, get_or, inl, inr, refl, subst, arith}
use Rattle.std.specs.Prelude.{position, ◌==◌, ◌&&◌}
use Rattle.std.specs.List.{position_or_len}
use Rattle.std.proofs.lemmas.Bool.{cases_lt, false_from_ne_true, le-ltb, lt-ltb, eq-eqb, eqb-true}
use Rattle.std.proofs.lemmas.List.Sums.{position_or_len_is}
use Rattle.std.specs.Cmp.Derive.{both_true}
use Rattle.elf_extent.specs.Extent.{IsLowest}
use Rattle.elf_field.specs.Abi.{SHT_SYMTAB_SHNDX}
use Rattle.elf_field.specs.declared.shdr.Shdr.{Shdr}
use Rattle.elf_image_outline.specs.Image.{no_section_header}
use Rattle.elf_table_symbols.specs.Sections.{Below, Sections, count}
use Rattle.elf_table_symbols.specs.Symbols.{AreIndexTables, IsIndexTable, IsSecondIndexTable, index_table, noted}
use Rattle.elf_table_symbols.specs.declared.index_tables.IndexTables.{IndexTables}

-- The lowest index below a bound of which something holds, as the bound rises. If it does not hold of the new index nothing changes; if it
-- does and none was found, the new index is it; what was found stays. At the length of a list it is what `position` finds.

-- an index below j + 1 is below j, or j
below_next : (P : ℕ → Type 0) (j k : ℕ) → Below (j + 1) P k → (k < j → Below j P k → ⊥) → (P j → ⊥) → ⊥
below_next P j k here before last =
    elim (cases_lt k j) [
      | inl below ↦ before below (below, here.1)
      | inr above ↦ (let same : k ≡ j = (let lt = here.0 in omega arith) in last (subst P same here.1))
    ]

-- where it does not hold of j, nothing changes
pub lowest_passed : (P : ℕ → Type 0) (j : ℕ) (found : Option ℕ) → IsLowest (Below j P) found → (P j → ⊥) → IsLowest (Below (j + 1) P) found
lowest_passed P j None never other = λ k here. below_next P j k here (λ lt below. never k below) other
lowest_passed P j (Some x) least other = record {
  holds = (let lt = least.holds.0 in omega arith, least.holds.1);
  lowest = λ k here. elim (cases_lt k j) [
    | inl below ↦ least.lowest k (below, here.1)
    | inr above ↦ (let same : k ≡ j = (let lt = here.0 in omega arith) in absurd (other (subst P same here.1)))
  ];
}

-- where it holds of j and of none before, j is the lowest
pub lowest_found : (P : ℕ → Type 0) (j : ℕ) → IsLowest (Below j P) None → P j → IsLowest (Below (j + 1) P) (Some j)
lowest_found P j never here = record {
  holds = (omega arith, here);
  lowest = λ k other. elim (cases_lt k j) [ inl below ↦ absurd (never k (below, other.1)) | inr above ↦ above ];
}

-- what was found stays the lowest
pub lowest_kept : (P : ℕ → Type 0) (j x : ℕ) → IsLowest (Below j P) (Some x) → IsLowest (Below (j + 1) P) (Some x)
lowest_kept P j x least = record {
  holds = (let lt = least.holds.0 in omega arith, least.holds.1);
  lowest = λ k other. elim (cases_lt k j) [
    | inl below ↦ least.lowest k (below, other.1)
    | inr above ↦ (let lt = least.holds.0 in omega arith)
  ];
}

-- the lowest index of a list of which something holds is the position of the first element that passes the test of it
pub lowest_position : {X : Type 0} (p : X → Bool) (xs : List X) (d : X) (P : ℕ → Type 0) (found : Option ℕ) →
    ((k : ℕ) → P k → p (get_or xs k d) ≡ true) → ((k : ℕ) → p (get_or xs k d) ≡ true → P k) →
    IsLowest (Below (length xs) P) found → found ≡ position p xs
lowest_position p xs d P None passes holds never =
    let here : position_or_len p xs ≡ length xs =
    position_or_len_is p xs (length xs) d (omega arith) (λ k lt. false_from_ne_true _ (λ test. never k (lt, holds k test)))
    (λ lt. absurd (omega arith)) in
    rw here (rw (le-ltb (length xs) (length xs) (omega arith)) refl)
lowest_position p xs d P (Some x) passes holds least =
    let within = least.holds.0 in
    let first : (k : ℕ) → k < x → p (get_or xs k d) ≡ false =
    λ k lt. false_from_ne_true _ (λ test. (let le = least.lowest k (omega arith, holds k test) in absurd (omega arith))) in
    let here : position_or_len p xs ≡ x = position_or_len_is p xs x d (omega arith) first (λ lt. passes x least.holds.1) in
    rw here (rw (lt-ltb x (length xs) within) refl)

-- a section that is none changes nothing
pub index_tables_passed : (f : Sections) (i j : ℕ) (tables : IndexTables) → AreIndexTables f i j tables → (IsIndexTable f i j → ⊥) →
    AreIndexTables f i (j + 1) tables
index_tables_passed f i j tables are other = record {
  first = lowest_passed (IsIndexTable f i) j tables.first are.first other;
  second = lowest_passed (IsSecondIndexTable f i) j tables.second are.second (λ here. other here.0);
}

-- one that is one is noted
noted_are : (f : Sections) (i j : ℕ) (first second : Option ℕ) → IsLowest (Below j (IsIndexTable f i)) first →
    IsLowest (Below j (IsSecondIndexTable f i)) second → IsIndexTable f i j →
    AreIndexTables f i (j + 1) (noted (record { first = first; second = second }) j)
noted_are f i j None second never lowest here = record {
  first = lowest_found (IsIndexTable f i) j never here;
  second = lowest_passed (IsSecondIndexTable f i) j second lowest (λ other. (let k = other.1.0 in never k (other.1.1, other.1.2)));
}
noted_are f i j (Some x) None least never here = record {
  first = lowest_kept (IsIndexTable f i) j x least;
  second = lowest_found (IsSecondIndexTable f i) j never (here, (x, least.holds.0, least.holds.1));
}
noted_are f i j (Some x) (Some y) least lowest here = record {
  first = lowest_kept (IsIndexTable f i) j x least;
  second = lowest_kept (IsSecondIndexTable f i) j y lowest;
}

pub index_tables_noted : (f : Sections) (i j : ℕ) (tables : IndexTables) → AreIndexTables f i j tables → IsIndexTable f i j →
    AreIndexTables f i (j + 1) (noted tables j)
index_tables_noted f i j tables are here = noted_are f i j tables.first tables.second are.first are.second here

-- at the end the first one is the index table
and_true : (s t : Bool) → (s && t) ≡ true → (s ≡ true) × (t ≡ true)
and_true true t both = (refl, both)
and_true false t both = cc

pub first_index_table : (f : Sections) (i : ℕ) (tables : IndexTables) → AreIndexTables f i (count f) tables → tables.first ≡ index_table f i
unfolding index_table
first_index_table f i tables are =
    lowest_position (λ (s : Shdr). (s.sh_type == SHT_SYMTAB_SHNDX) && (s.sh_link == i)) f.headers no_section_header
    (IsIndexTable f i) tables.first
    (λ k here. both_true (eq-eqb _ _ here.0) (eq-eqb _ _ here.1))
    (λ k test. (let parts = and_true _ _ test in (eqb-true _ _ parts.0, eqb-true _ _ parts.1)))
    are.first
