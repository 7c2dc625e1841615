use Rattle.std.specs.List.{range_with_len}
use Rattle.std.proofs.lemmas.Result.{err_from_is_err_and}
use Rattle.elf_image_stream.proofs.Public.{no_index}
use Rattle.elf_tool_text.proofs.PassedText.{line_passed, line_stopped}
use Rattle.elf_tool_text.proofs.TextLines.{all_lines_buffered}
use Rattle.elf_tool_text.proofs.passed.pass_lines.Goals as goal

pub returns-in_err-pass : goal.returns-in_err-pass
returns-in_err-pass g c =
    let n = g.L.PassedLines.count c.args.lines.now in
    let p = err_from_is_err_and c.from_residual.result c.from_residual.ensures.1 in
    rw (p.1, p.2)
    (line_stopped
    (g.L.PassedLines.line c.args.lines.now) c.loop-j.j c.count-j-end.result n c.loop-j-test.true c.count-j-end.ensures _ _ _ _ _
    c.loop-j.invariant _ c.in_err-pass.ensures)

pub loop-j-preserved : goal.loop-j-preserved
loop-j-preserved g c =
    let n = g.L.PassedLines.count c.args.lines.now in
    line_passed (g.L.PassedLines.line c.args.lines.now) c.loop-j.j c.count-j-end.result n c.loop-j-test.true c.count-j-end.ensures _ _ _ _ _
    c.loop-j.invariant _ c.in_ok-pass.ensures

pub returns : goal.returns
returns g c =
    let n = g.L.PassedLines.count c.args.lines.now in
    all_lines_buffered (g.L.PassedLines.line c.args.lines.now) (range_with_len 0 n) c.loop-j.j _ _ _ _
    (no_index c.loop-j.j c.count-j-end.result n c.loop-j-test.false c.count-j-end.ensures) c.loop-j.invariant
