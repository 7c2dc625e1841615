-- By the numbers of a note section, the offset found is where the note of this index begins (`same_offset`). The note is read there exactly
-- if the index is below the number of notes, and it is that of the list (`note_there`, `note_by_numbers`). If no offset is found, an
-- earlier note is cut, so there are fewer notes (`none_after`).
use Rattle.std.proofs.Common.{◌≡◌, ◌<◌, ◌≤◌, ◌+◌, ◌↔◌, ℕ, List, ap, length, subst, sym, ◌∙◌}
use Rattle.elf_field.specs.declared.number.Order.{Order}
use Rattle.elf_table_symbols.specs.declared.table_section.TableKind.TheVariants.{NoteSection}
use Rattle.elf_table_symbols.specs.Sections.{content, order, sections_in}
use Rattle.elf_table_lists.specs.Notes.{note_at, note_end, note_offset, notes_of}
use Rattle.elf_c.specs.Tables.{reported_note, slot_bytes, whole_notes}
use Rattle.elf_c.specs.Files.{order_named}
use Rattle.elf_c.specs.declared.shapes.Note.{Note}
use Rattle.elf_c.proofs.ReadFiles.{none_there, some_same}
use Rattle.elf_c.proofs.ReadEntries.{note_offset_after, none_after, note_by_numbers, note_there}
use Rattle.elf_c.proofs.ReadTables.{table_content, table_kind, table_order}
use Rattle.elf_c.proofs.WholeNotes.{none_whole, whole_there}
use Rattle.elf_c.proofs.notes.note_of_index.Goals as goal

-- an offset by the bytes that were read is the one by the numbers of the table
same_offset : (o p : Order) (s t : List ℕ) (x k : ℕ) → x ≡ note_offset o s 0 k → o ≡ p → s ≡ t → x ≡ note_offset p t 0 k
same_offset o p s t x k is ordered read =
    is ∙ ap (λ (q : Order). note_offset q s 0 k) ordered ∙ ap (λ (u : List ℕ). note_offset p u 0 k) read

-- some note before note j is cut
abbrev IsCutBefore : ℕ → Order → List ℕ → Type 0
IsCutBefore j o t = (k : ℕ) × (k < j) × (length t < note_end o t (note_offset o t 0 k))

cut_by_numbers : (j : ℕ) (o p : Order) (s t : List ℕ) → o ≡ p → s ≡ t → IsCutBefore j o s → IsCutBefore j p t
cut_by_numbers j o p s t ordered read cut = subst (λ (q : Order). IsCutBefore j q t) ordered (subst (IsCutBefore j o) read cut)

pub returns-in_err-offset-clause-there : goal.returns-in_err-offset-clause-there
returns-in_err-offset-clause-there c i is =
    let t = c.args.table.now in
    let b = c.args.bytes.now in
    let cut = cut_by_numbers c.args.index _ (order_named t.ei_data) _
    (slot_bytes b t.content) c.order_of.ensures c.bytes_of-content.ensures.content
    c.in_err-offset.ensures.cut in
    none_there _ _ c.from_residual.ensures (none_after t b i cut.0 c.args.index is cut.1 cut.2)

pub returns-in_err-offset-clause-lies : goal.returns-in_err-offset-clause-lies
returns-in_err-offset-clause-lies c =
    let t = c.args.table.now in
    let o = order_named t.ei_data in
    let s = slot_bytes c.args.bytes.now t.content in
    let cut = cut_by_numbers c.args.index _ o _ s c.order_of.ensures c.bytes_of-content.ensures.content c.in_err-offset.ensures.cut in
    none_there _ _ c.from_residual.ensures (λ has. none_whole o s cut.0 c.args.index cut.1 cut.2 has.1)

pub returns-clause-there : goal.returns-clause-there
returns-clause-there c i is =
    let t = c.args.table.now in
    let b = c.args.bytes.now in
    let o = order_named t.ei_data in
    let s = slot_bytes b t.content in
    let place = same_offset c.order_of.result o c.bytes_of-content.result.now s c.in_ok-offset.offset c.args.index
    c.in_ok-offset.ensures.found
    c.order_of.ensures c.bytes_of-content.ensures.content in
    let there = subst (λ (x : ℕ). note_end o s x ≤ length s ↔ (c.args.index < length (notes_of (sections_in b) i))) (sym place)
    (note_there t b i c.args.index is) in (
      λ some. there.0 (c.note_of.ensures.there.0 some).1,
      λ below. c.note_of.ensures.there.1 (table_kind NoteSection t b i is, there.1 below),
    )

pub returns-clause-value : goal.returns-clause-value
returns-clause-value c i is =
    let t = c.args.table.now in
    let b = c.args.bytes.now in
    let o = order_named t.ei_data in
    let s = slot_bytes b t.content in
    let place = same_offset c.order_of.result o c.bytes_of-content.result.now s c.in_ok-offset.offset c.args.index
    c.in_ok-offset.ensures.found
    c.order_of.ensures c.bytes_of-content.ensures.content in
    some_same (reported_note b) _ _ c.note_of.result c.note_of.ensures.value
    (λ some. ap (note_at o s) place
    ∙ note_by_numbers t b i c.args.index is (subst (λ (x : ℕ). note_end o s x ≤ length s) place (c.note_of.ensures.there.0 some).1))

pub returns-clause-next : goal.returns-clause-next
returns-clause-next c i is =
    let t = c.args.table.now in
    let b = c.args.bytes.now in
    let f = sections_in b in
    let o = order_named t.ei_data in
    let s = slot_bytes b t.content in
    let j = c.args.index in
    let place = same_offset c.order_of.result o c.bytes_of-content.result.now s c.in_ok-offset.offset j c.in_ok-offset.ensures.found
    c.order_of.ensures c.bytes_of-content.ensures.content in
    some_same (λ (n : Note). n.next) _ _ c.note_of.result c.note_of.ensures.next
    (λ _. same_offset o (order f) s (content f i) (note_end o s c.in_ok-offset.offset) (j + 1)
    (note_offset_after o s c.in_ok-offset.offset j place)
    (table_order NoteSection t b i is) (table_content NoteSection t b i is))

pub returns-clause-stands : goal.returns-clause-stands
returns-clause-stands c =
    let t = c.args.table.now in
    let o = order_named t.ei_data in
    let s = slot_bytes c.args.bytes.now t.content in
    let place = same_offset c.order_of.result o c.bytes_of-content.result.now s c.in_ok-offset.offset c.args.index
    c.in_ok-offset.ensures.found
    c.order_of.ensures c.bytes_of-content.ensures.content in
    rw (← place) c.note_of.ensures.stands

pub returns-clause-lies : goal.returns-clause-lies
returns-clause-lies c =
    let t = c.args.table.now in
    let o = order_named t.ei_data in
    let s = slot_bytes c.args.bytes.now t.content in
    let place = same_offset c.order_of.result o c.bytes_of-content.result.now s c.in_ok-offset.offset c.args.index
    c.in_ok-offset.ensures.found
    c.order_of.ensures c.bytes_of-content.ensures.content in
    let there = subst (λ (x : ℕ). note_end o s x ≤ length s ↔ (c.args.index < whole_notes o s)) (sym place)
    (whole_there o s c.args.index) in (
      λ some. (let has = c.note_of.ensures.there.0 some in (has.0, there.0 has.1)),
      λ has. c.note_of.ensures.there.1 (has.0, there.1 has.1),
    )
