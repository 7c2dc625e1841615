-- The note's end lies in the content, which lies in the file, so no sum overflows; the note that is read in the content is the one in the
-- file.
use Rattle.std.proofs.Common.{◌≡◌, ◌≤◌, ℕ, List, ap, arith, length, subst, sym, ◌∙◌}
use Rattle.elf_field.specs.declared.number.Order.{Order}
use Rattle.elf_table_lists.specs.Notes.{note_at, note_end}
use Rattle.elf_table_lists.proofs.Public.{note_in_file}
use Rattle.elf_c_parts.specs.Slots.{extent_in}
use Rattle.elf_c.specs.Tables.{NoteStandsAt, slot_bytes}
use Rattle.elf_c.proofs.ReadEntries.{note_end_above, length-bytes_in, note_end_in_file, note_stands_in_file}
use Rattle.elf_c.proofs.notes.note_of.Goals as goal

pub overflow_add-at : goal.overflow_add-at
overflow_add-at c =
    let above = note_end_above c.order_of-order.result c.bytes_of-content.result.now c.args.offset in
    let ends = c.in_ok-next.ensures.0 in
    let inside = c.bytes_of-content.ensures.inside (omega arith) in
    let long = c.type_inv.bytes in
    omega arith

pub note_in-requires : goal.note_in-requires
note_in-requires c =
    let o = c.order_of-order.result in
    let b = c.args.bytes.now in
    let place = c.args.table.now.content in
    let read = c.bytes_of-content.ensures.content in
    let above = note_end_above o c.bytes_of-content.result.now c.args.offset in
    let ends = c.in_ok-next.ensures.0 in
    let inside = c.bytes_of-content.ensures.inside (omega arith) in
    let own : note_end o (slot_bytes b place) c.args.offset ≤ length (slot_bytes b place) =
    subst (λ (s : List ℕ). note_end o s c.args.offset ≤ length s) read ends in
    let long : length c.bytes_of-content.result.now ≡ length (slot_bytes b place) = ap length read in
    let most = length-bytes_in b (extent_in place) in
    let file = note_end_in_file o b (extent_in place) c.args.offset (omega arith) in
    omega arith

pub returns-clause-value : goal.returns-clause-value
returns-clause-value c =
    let o = c.order_of-order.result in
    let b = c.args.bytes.now in
    let place = c.args.table.now.content in
    let own : note_end o (slot_bytes b place) c.args.offset ≤ length (slot_bytes b place) =
    subst (λ (s : List ℕ). note_end o s c.args.offset ≤ length s) c.bytes_of-content.ensures.content c.in_ok-next.ensures.0 in
    let most = length-bytes_in b (extent_in place) in
    c.note_in.ensures.value ∙ sym (note_in_file o b (extent_in place) c.args.offset (omega arith))
    ∙ ap (λ (p : Order). note_at p (slot_bytes b place) c.args.offset) c.order_of-order.ensures

pub returns-clause-stands : goal.returns-clause-stands
returns-clause-stands c =
    let o = c.order_of-order.result in
    let b = c.args.bytes.now in
    let place = c.args.table.now.content in
    let own : note_end o (slot_bytes b place) c.args.offset ≤ length (slot_bytes b place) =
    subst (λ (s : List ℕ). note_end o s c.args.offset ≤ length s) c.bytes_of-content.ensures.content c.in_ok-next.ensures.0 in
    let most = length-bytes_in b (extent_in place) in
    subst (λ (p : Order). NoteStandsAt c.note_in.result p (slot_bytes b place) place.start c.args.offset) c.order_of-order.ensures
    (note_stands_in_file c.note_in.result o b (extent_in place) c.args.offset (omega arith) c.note_in.ensures.stands)
