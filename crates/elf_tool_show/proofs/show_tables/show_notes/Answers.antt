-- One pass of the loop takes one note from those that are left and adds its line to those sent. If that fails, a beginning of all lines was
-- sent. If no note is left, all lines are sent.
use Rattle.std.proofs.Common.{◌≡◌, ◌∙◌, ℕ, ◌+◌, ◌<◌, ◌≤◌, List, [], ◌∷◌, length, drop, get_or, ap, arith, length-drop, refl, sym}
use Rattle.std.proofs.lemmas.List.{drop_more}
use Rattle.std.proofs.lemmas.Result.{err_from_is_err_and}
use Rattle.elf_table_lists.specs.Notes.{note_value}
use Rattle.elf_tool_show.specs.Show.{note_line, note_lines}
use Rattle.elf_tool_text.proofs.Public.{all_lines_buffered, buffers_none, line_buffered, line_cut, line_refused}
use Rattle.elf_tool_show.proofs.show_tables.show_notes.Goals as goal

-- What an iterator has left of a list, when so many of its elements are taken.

module _ {X : Type 0} (xs : List X) (n : ℕ) where
  none_left : [] ≡ drop n xs → length xs ≤ n
  none_left none = let long = ap length none ∙ length-drop n xs in omega arith

  module _ (x : X) (rest : List X) (left : x ∷ rest ≡ drop n xs) where
    some_left : n < length xs
    some_left = let long = ap length left ∙ length-drop n xs in omega arith

    first_left : x ≡ get_or xs n x
    first_left = let more = drop_more xs n x some_left in cc

    still_left : rest ≡ drop (n + 1) xs
    still_left = let more = drop_more xs n x some_left in cc

pub loop-note-init : goal.loop-note-init
loop-note-init g c = (0, buffers_none _ _, c.into_iter-note-iterator.ensures.into_iter_gives ∙ c.iter-note-items.ensures)

pub returns-in_err-push_note_line : goal.returns-in_err-push_note_line
unfolding note_lines
returns-in_err-push_note_line g c =
    let (n, sent, left) = c.loop-note.invariant in
    let x = note_value c.in-Some.note in
    let within = some_left c.args.notes.now n x c.next.new.self (sym c.in-Some.ensures.steps ∙ left) in
    let p = err_from_is_err_and c.from_residual.result c.from_residual.ensures.1 in
    rw (p.1, p.2) (line_refused (note_line c.args.i) c.args.notes.now n x within _ _ _ _ sent)

pub loop-note-preserved : goal.loop-note-preserved
loop-note-preserved g c =
    let (n, sent, left) = c.loop-note.invariant in
    let x = note_value c.in-Some.note in
    let split = sym c.in-Some.ensures.steps ∙ left in
    let within = some_left c.args.notes.now n x c.next.new.self split in
    let is = ap (note_line c.args.i) (first_left c.args.notes.now n x c.next.new.self split) in (
      n + 1,
      line_buffered (note_line c.args.i) c.args.notes.now n x within _ _ _ _ (note_line c.args.i x) sent is
          _ (record { pending = c.push_note_line.new.text; written = c.loop-note.output.written }) _ c.in_ok-push_note_line.ensures refl
          c.in_ok-flush_piece.ensures.buffered,
      still_left c.args.notes.now n x c.next.new.self split,
    )

pub returns-in_err-flush_piece : goal.returns-in_err-flush_piece
unfolding note_lines
returns-in_err-flush_piece g c =
    let (n, sent, left) = c.loop-note.invariant in
    let x = note_value c.in-Some.note in
    let split = sym c.in-Some.ensures.steps ∙ left in
    let within = some_left c.args.notes.now n x c.next.new.self split in
    let is = ap (note_line c.args.i) (first_left c.args.notes.now n x c.next.new.self split) in
    let p = err_from_is_err_and c.from_residual-in_err-flush_piece.result c.from_residual-in_err-flush_piece.ensures.1 in
    rw (p.1, p.2) (line_cut (note_line c.args.i) c.args.notes.now n x within _ _ _ _ (note_line c.args.i x) sent is
    _ (record { pending = c.push_note_line.new.text; written = c.loop-note.output.written }) c.in_err-flush_piece.field-0.0
    c.in_ok-push_note_line.ensures refl c.in_err-flush_piece.ensures.buffered)

pub returns : goal.returns
unfolding note_lines
returns g c =
    let (n, sent, left) = c.loop-note.invariant in
    all_lines_buffered (note_line c.args.i) c.args.notes.now n _ _ _ _
    (none_left c.args.notes.now n (sym c.in-None.ensures.steps.0 ∙ left)) sent
