-- Which note has a byte. The one that is read at the byte is it (`note_found`). No note that ends before the byte has it (`note_passed`),
-- so
-- none has it if the next one is cut (`none_cut`), or if there are no more (`none_left`). Then: what is found in the content of a section
-- is
-- what the owner has there.
use Rattle.std.proofs.Common.{◌≡◌, ◌<◌, ◌≤◌, ◌+◌, ◌-◌, ℕ, List, None, Option, Some, arith, inl, inr, length, subst, suc, sym}
use Rattle.std.proofs.lemmas.Bool.{cases_lt}
use Rattle.std.specs.Prelude.{MatchOption}
use Rattle.elf_c.proofs.FieldWidths.{field_inside}
use Rattle.elf_c.proofs.ReadEntries.{note_offset_next}
use Rattle.elf_c.proofs.WholeNotes.{offset_ascends, whole_few, whole_there}
use Rattle.elf_c.specs.Fields.{IsFieldAt}
use Rattle.elf_c.specs.Files.{file_order}
use Rattle.elf_c.specs.Owners.{IsInContentAt, OwnsOffset}
use Rattle.elf_c.specs.Places.{AreRecords, AreRecordsAt, IsNotePlace, IsNotePlaceAt, IsPlaceOf, header_of_content, note_widths}
use Rattle.elf_c.specs.Tables.{whole_notes}
use Rattle.elf_c.specs.declared.records.Records.{Records}
use Rattle.elf_c.specs.declared.shapes.File.{File}
use Rattle.elf_c.specs.declared.shapes.Place.{Place}
use Rattle.elf_extent.specs.Extent.{Never}
use Rattle.elf_field.specs.Abi.{SHT_NOTE}
use Rattle.elf_field.specs.Record.{width_of}
use Rattle.elf_field.specs.declared.number.Order.{Order}
use Rattle.elf_field.specs.declared.shdr.Shdr.{Shdr}
use Rattle.elf_image_rules.specs.Tables.{bytes_in, content_extent}
use Rattle.elf_table_lists.specs.Notes.{desc_start, note_end, note_offset}

-- the fields of a note are all of it
pub width_of_note : (o : Order) (table : List ℕ) (x : ℕ) → x + width_of (note_widths o table x) ≡ note_end o table x
unfolding note_end desc_start
width_of_note o table x = omega arith

note_passed : (o : Order) (table : List ℕ) (start x entry : ℕ) (p : Place) → start + note_offset o table 0 entry ≤ x →
    IsNotePlace o table start x p →
    entry ≤ p.entry
note_passed o table start x entry p past is =
    let inside = field_inside _ _ _ is.field in
    let width = width_of_note o table (note_offset o table 0 p.entry) in
    let next = note_offset_next o table 0 p.entry in
    elim (cases_lt p.entry entry) [
      | inl lower ↦
          (let ascends = offset_ascends o table (suc p.entry) entry (omega arith) in absurd (omega (arith, is.record_start, is.from)))
      | inr enough ↦ enough
    ]

pub none_cut : (o : Order) (table : List ℕ) (start x entry at : ℕ) → at ≡ note_offset o table 0 entry → start + at ≤ x →
    (note_end o table at ≤ length table → ⊥) → Never (IsNotePlace o table start x)
none_cut o table start x entry at place past cut p is =
    let enough = note_passed o table start x entry p (omega arith) is in
    let below : entry < whole_notes o table = omega (arith, is.whole) in
    cut (subst (λ (y : ℕ). note_end o table y ≤ length table) (sym place) ((whole_there o table entry).1 below))

pub none_left : (o : Order) (table : List ℕ) (start x entry at : ℕ) → at ≡ note_offset o table 0 entry → start + at ≤ x →
    length table ≤ entry →
    Never (IsNotePlace o table start x)
none_left o table start x entry at place past all p is =
    let enough = note_passed o table start x entry p (omega arith) is in
    let few = whole_few o table in
    absurd (omega (arith, is.whole))

pub note_found : (o : Order) (table : List ℕ) (start x entry at : ℕ) (p : Place) → at ≡ note_offset o table 0 entry → start + at ≤ x →
    note_end o table at ≤ length table → p.entry ≡ entry → p.record.start ≡ start + at → p.record.len ≡ note_end o table at - at →
    IsFieldAt (note_widths o table at) (x - start - at) p.field → IsNotePlace o table start x p
note_found o table start x entry at p place past ends index begins long field =
    let own : at ≡ note_offset o table 0 p.entry = rw index place in
    let width = width_of_note o table at in
    let inner : x - start - at ≡ x - p.record.start = omega arith in
    record {
      whole = rw index ((whole_there o table entry).0 (subst (λ (y : ℕ). note_end o table y ≤ length table) place ends));
      record_start = rw (← own) begins;
      record_width = rw (← own) (omega arith);
      from = omega arith;
      field = rw (← own) (subst (λ (y : ℕ). IsFieldAt (note_widths o table at) y p.field) inner field);
    }

-- ---- the note that an owner has

-- from 3 on an owner is a content
pub owns_content : (f : File) (b : List ℕ) (x owner : ℕ) → 3 ≤ owner → OwnsOffset f b x owner → IsInContentAt f b (owner - 3) x
owns_content f b x owner past owns = elim owns [
  | inl (is, inside) ↦ absurd (omega arith)
  | inr (inl (is, inside)) ↦ absurd (omega arith)
  | inr (inr (inl (is, inside))) ↦ absurd (omega arith)
  | inr (inr (inr (from, inside))) ↦ inside
]

-- which begins at the offset or before it
pub content_begins : (f : File) (b : List ℕ) (x owner start : ℕ) (s : Shdr) → 3 ≤ owner → OwnsOffset f b x owner →
    s ≡ header_of_content f b (owner - 3) → start ≡ s.sh_offset → start ≤ x
content_begins f b x owner start s past owns same begins =
    let inside = owns_content f b x owner past owns in
    rw (begins, same) inside.2.0

pub note_at_owner : (f : File) (b : List ℕ) (x owner : ℕ) (r : Option Place) (o : Order) (table : List ℕ) (start : ℕ) (s : Shdr) →
    3 ≤ owner → OwnsOffset f b x owner → s ≡ header_of_content f b (owner - 3) → s.sh_type ≡ SHT_NOTE →
    o ≡ file_order f → table ≡ bytes_in b (content_extent s) → start ≡ s.sh_offset →
    MatchOption r (Never (IsNotePlace o table start x)) (IsNotePlace o table start x) →
    MatchOption r (Never (IsNotePlaceAt f b x owner)) (IsNotePlaceAt f b x owner)
note_at_owner f b x owner None o table start s past owns same typed ordered read begins never =
    λ p has. never p (rw (ordered, read, begins, same) has.3)
note_at_owner f b x owner (Some p) o table start s past owns same typed ordered read begins found =
    (past, subst (λ (t : Shdr). t.sh_type ≡ SHT_NOTE) same typed, owns, rw (ordered, read, begins, same) at found)

-- an owner that is no records of one width may be notes
pub note_as_place : (f : File) (b : List ℕ) (x owner : ℕ) (r : Option Place) → Never (AreRecords f b owner) →
    MatchOption r (Never (IsNotePlaceAt f b x owner)) (IsNotePlaceAt f b x owner) →
    MatchOption r (Never (AreRecordsAt f b x owner) × Never (IsNotePlaceAt f b x owner)) (IsPlaceOf f b x owner)
note_as_place f b x owner None none never = (λ (q : Records) has. none q has.0, never)
note_as_place f b x owner (Some p) none found = inr found
