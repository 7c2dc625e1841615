-- One pass of the loop adds one line to those that are buffered or sent, in order. If a line is not allocated or a piece is not sent, a
-- beginning of all lines was sent. After the last line all are buffered or sent (`Buffered`).
use Rattle.std.proofs.Common.{refl}
use Rattle.std.specs.List.{range_with_len}
use Rattle.std.proofs.lemmas.Result.{err_from_is_err_and}
use Rattle.elf_image_stream.proofs.Public.{is_index, line_at, no_index}
use Rattle.elf_tool_text.proofs.TextLines.{all_lines_buffered, line_refused, line_buffered, line_cut}
use Rattle.elf_tool_text.proofs.lines.show_lines.Goals as goal

pub returns-in_err-push : goal.returns-in_err-push
returns-in_err-push g c =
    let n = g.L.Lines.count c.args.lines.now in
    let within = is_index c.loop-j.j c.count-j-end.result n c.loop-j-test.true c.count-j-end.ensures in
    let p = err_from_is_err_and c.from_residual.result c.from_residual.ensures.1 in
    rw (p.1, p.2) (line_refused (g.L.Lines.line c.args.lines.now) (range_with_len 0 n) c.loop-j.j 0 within _ _ _ _ c.loop-j.invariant)

pub returns-in_err-flush_piece : goal.returns-in_err-flush_piece
returns-in_err-flush_piece g c =
    let n = g.L.Lines.count c.args.lines.now in
    let line = g.L.Lines.line c.args.lines.now in
    let within = is_index c.loop-j.j c.count-j-end.result n c.loop-j-test.true c.count-j-end.ensures in
    let is = line_at line c.loop-j.j c.count-j-end.result n (line c.loop-j.j) c.loop-j-test.true c.count-j-end.ensures refl in
    let p = err_from_is_err_and c.from_residual-in_err-flush_piece.result c.from_residual-in_err-flush_piece.ensures.1 in
    rw (p.1, p.2) (line_cut line (range_with_len 0 n) c.loop-j.j 0 within _ _ _ _ (line c.loop-j.j) c.loop-j.invariant is
    _ (record { pending = c.push.new.text; written = c.loop-j.output.written }) c.in_err-flush_piece.field-0.0 c.in_ok-push.ensures refl
    c.in_err-flush_piece.ensures.buffered)

pub loop-j-preserved : goal.loop-j-preserved
loop-j-preserved g c =
    let n = g.L.Lines.count c.args.lines.now in
    let line = g.L.Lines.line c.args.lines.now in
    let within = is_index c.loop-j.j c.count-j-end.result n c.loop-j-test.true c.count-j-end.ensures in
    let is = line_at line c.loop-j.j c.count-j-end.result n (line c.loop-j.j) c.loop-j-test.true c.count-j-end.ensures refl in
    line_buffered line (range_with_len 0 n) c.loop-j.j 0 within _ _ _ _ (line c.loop-j.j) c.loop-j.invariant is
    _ (record { pending = c.push.new.text; written = c.loop-j.output.written }) _ c.in_ok-push.ensures refl
    c.in_ok-flush_piece.ensures.buffered

pub returns : goal.returns
returns g c =
    let n = g.L.Lines.count c.args.lines.now in
    all_lines_buffered (g.L.Lines.line c.args.lines.now) (range_with_len 0 n) c.loop-j.j _ _ _ _
    (no_index c.loop-j.j c.count-j-end.result n c.loop-j-test.false c.count-j-end.ensures) c.loop-j.invariant
