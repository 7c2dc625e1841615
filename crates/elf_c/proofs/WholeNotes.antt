-- How many notes of a content are before the first that is cut. A note is before it exactly if it ends in the content (`whole_there`), as
-- each note begins where the one before it ends, and takes bytes. So n is their number if the notes below n are whole and note n is cut
-- (`whole_counted`). If a section breaks no rule, they are all of its notes.
use Rattle.std.proofs.Common.{◌≡◌, ◌<◌, ◌≤◌, ◌↔◌, ◌∙◌, ℕ, List, true, false, ap, arith, inl, inr, length, get_or, sym, zero, suc, zero-add}
use Rattle.std.specs.List.{position_or_len}
use Rattle.std.specs.Prelude.{nat_lt}
use Rattle.std.proofs.lemmas.Bool.{cases_eq, cases_lt}
use Rattle.std.proofs.lemmas.Bool.Decides.{nat_tests}
use Rattle.std.proofs.lemmas.List.{length-take}
use Rattle.std.proofs.lemmas.List.FromFn.{get_or-map-range_with_len, length-map-range_with_len}
use Rattle.std.proofs.lemmas.List.Sums.{fails_before_first, passes_at_first}
use Rattle.elf_c.proofs.ReadEntries.{note_end_above, note_offset_next, note_there, table_whole}
use Rattle.elf_c.specs.Files.{order_named}
use Rattle.elf_c.specs.Tables.{IsTableOf, is_cut, note_offsets, slot_bytes, whole_notes}
use Rattle.elf_c.specs.declared.shapes.Table.{Table}
use Rattle.elf_field.specs.declared.number.Order.{Order}
use Rattle.elf_table_lists.specs.Notes.{note_end, note_offset, notes_of}
use Rattle.elf_table_symbols.specs.Sections.{sections_in}
use Rattle.elf_table_symbols.specs.declared.table_section.TableKind.TheVariants.{NoteSection}

-- note k begins k bytes after the first one, or later
offset_grows : (o : Order) (table : List ℕ) (k : ℕ) → k ≤ note_offset o table 0 k
offset_grows o table zero = omega arith
offset_grows o table (suc k) =
    let before = offset_grows o table k in
    let next = note_offset_next o table 0 k in
    let above = note_end_above o table (note_offset o table 0 k) in
    omega arith

-- no note begins before an earlier one
pub offset_ascends : (o : Order) (table : List ℕ) (k j : ℕ) → k ≤ j → note_offset o table 0 k ≤ note_offset o table 0 j
offset_ascends o table k zero le = (let same : k ≡ 0 = omega arith in rw same (omega arith))
offset_ascends o table k (suc j) le = elim (cases_eq k (suc j)) [
  | inl same ↦ rw same (omega arith)
  | inr other ↦
      let before = offset_ascends o table k j (omega arith) in
      let next = note_offset_next o table 0 j in
      let above = note_end_above o table (note_offset o table 0 j) in
      omega arith
]

-- nor ends before it
end_ascends : (o : Order) (table : List ℕ) (k j : ℕ) → k ≤ j →
    note_end o table (note_offset o table 0 k) ≤ note_end o table (note_offset o table 0 j)
end_ascends o table k j le = elim (cases_eq k j) [
  | inl same ↦ rw same (omega arith)
  | inr other ↦
      let next = note_offset_next o table 0 k in
      let begins = offset_ascends o table (suc k) j (omega arith) in
      let above = note_end_above o table (note_offset o table 0 j) in
      omega arith
]

length-offsets : (o : Order) (table : List ℕ) → length (note_offsets o table) ≡ length table
length-offsets o table = length-map-range_with_len (note_offset o table 0) 0 (length table)

offset_get : (o : Order) (table : List ℕ) (k : ℕ) → k < length table → get_or (note_offsets o table) k 0 ≡ note_offset o table 0 k
offset_get o table k below = get_or-map-range_with_len (note_offset o table 0) 0 (length table) k k 0 below (zero-add k)

pub whole_few : (o : Order) (table : List ℕ) → whole_notes o table ≤ length table
whole_few o table =
    let xs = note_offsets o table in
    let long = length-offsets o table in
    let cut = length-take (position_or_len (is_cut o table) xs) xs in
    omega arith

-- a note that ends in the content is before the first that is cut
whole_before : (o : Order) (table : List ℕ) (j : ℕ) → note_end o table (note_offset o table 0 j) ≤ length table → j < whole_notes o table
whole_before o table j ends =
    let xs = note_offsets o table in
    let n = position_or_len (is_cut o table) xs in
    let long = length-offsets o table in
    let cut = length-take n xs in
    let grown = offset_grows o table j in
    let above = note_end_above o table (note_offset o table 0 j) in
    elim (cases_lt j n) [
      | inl below ↦ omega arith
      | inr past ↦
          let within : n < length table = omega arith in
          let first : is_cut o table (get_or xs n 0) ≡ true = passes_at_first (is_cut o table) xs 0 (omega arith) in
          let test : nat_lt (length table) (note_end o table (note_offset o table 0 n)) ≡ true =
          sym (ap (is_cut o table) (offset_get o table n within)) ∙ first in
          let is_past : length table < note_end o table (note_offset o table 0 n) = grind (arith, nat_tests) in
          let later = end_ascends o table n j past in
          omega arith
    ]

-- and the notes before it end there
before_whole : (o : Order) (table : List ℕ) (j : ℕ) → j < whole_notes o table → note_end o table (note_offset o table 0 j) ≤ length table
before_whole o table j below =
    let xs = note_offsets o table in
    let n = position_or_len (is_cut o table) xs in
    let long = length-offsets o table in
    let cut = length-take n xs in
    let first : j < n = omega arith in
    let within : j < length table = omega arith in
    let other : is_cut o table (get_or xs j 0) ≡ false = fails_before_first (is_cut o table) xs j 0 first in
    let test : nat_lt (length table) (note_end o table (note_offset o table 0 j)) ≡ false =
    sym (ap (is_cut o table) (offset_get o table j within)) ∙ other in
    grind (arith, nat_tests)

pub whole_there : (o : Order) (table : List ℕ) (j : ℕ) →
    note_end o table (note_offset o table 0 j) ≤ length table ↔ (j < whole_notes o table)
whole_there o table j = (whole_before o table j, before_whole o table j)

-- after a note that is cut there is none
pub none_whole : (o : Order) (table : List ℕ) (k j : ℕ) → k < j → length table < note_end o table (note_offset o table 0 k) →
    j < whole_notes o table → ⊥
none_whole o table k j before cut below = (let ends = before_whole o table k (omega arith) in omega arith)

pub whole_counted : (o : Order) (table : List ℕ) (n : ℕ) → ((k : ℕ) → k < n → note_end o table (note_offset o table 0 k) ≤ length table) →
    length table < note_end o table (note_offset o table 0 n) → n ≡ whole_notes o table
whole_counted o table n whole cut =
    let m = whole_notes o table in
    elim (cases_lt m n) [
      | inl fewer ↦ (let more = (whole_there o table m).0 (whole m fewer) in absurd (omega arith))
      | inr enough ↦ elim (cases_lt n m) [
        | inl more ↦ (let ends = (whole_there o table n).1 more in absurd (omega arith))
        | inr most ↦ omega arith
      ]
    ]

-- a section that breaks no rule
pub whole_notes_listed : (t : Table) (b : List ℕ) (i : ℕ) → IsTableOf NoteSection t b i → t.entries ≡ length (notes_of (sections_in b) i)
whole_notes_listed t b i is =
    let o = order_named t.ei_data in
    let c = slot_bytes b t.content in
    let m = length (notes_of (sections_in b) i) in
    let n = whole_notes o c in
    let counted : t.entries ≡ n = table_whole t b i is in
    elim (cases_lt n m) [
      | inl more ↦ (let one = (whole_there o c n).0 ((note_there t b i n is).1 more) in absurd (omega arith))
      | inr most ↦ elim (cases_lt m n) [
        | inl fewer ↦ (let one = (note_there t b i m is).0 ((whole_there o c m).1 fewer) in absurd (omega arith))
        | inr enough ↦ omega arith
      ]
    ]
