-- The room for a piece is empty at first, so what the lines pass on is written from the first byte on. If the writer fails, among the lines
-- or at the last piece, a beginning of them is written.
use Rattle.std.proofs.Common.{None, ap₂}
use Rattle.std.proofs.lemmas.Result.{err_from_is_err_and}
use Rattle.elf_tool_link.specs.Map.{RelocationSays, map_text}
use Rattle.elf_tool_link.proofs.MapPrints.{last_stopped, lines_stopped, lines_written}
use Rattle.elf_tool_link.proofs.mapping.write_map.Goals as goal

pub returns-in_err-pass_map : goal.returns-in_err-pass_map
returns-in_err-pass_map g c =
    let m = c.args.mapped.now in
    let text = map_text c.objects.result.now c.map.result.now in
    let is = ap₂ map_text c.objects.ensures c.map.ensures in
    let p = err_from_is_err_and c.from_residual-in_err-pass_map.result c.from_residual-in_err-pass_map.ensures.1 in
    rw (p.1, p.2)
    (lines_stopped
    (RelocationSays None m.objects m.map) _ c.in_ok-text.text text is c.in_ok-text.ensures.pending c.in_ok-text.ensures.written
    _ c.in_err-pass_map.field-0.0.written c.in_err-pass_map.ensures)

pub returns-in_err-write_pending : goal.returns-in_err-write_pending
returns-in_err-write_pending g c =
    let m = c.args.mapped.now in
    let text = map_text c.objects.result.now c.map.result.now in
    let is = ap₂ map_text c.objects.ensures c.map.ensures in
    let p = err_from_is_err_and c.from_residual-in_err-write_pending.result c.from_residual-in_err-write_pending.ensures.1 in
    rw (p.1, p.2)
    (last_stopped
    (RelocationSays None m.objects m.map) _ c.in_ok-text.text text is c.in_ok-text.ensures.pending c.in_ok-text.ensures.written
    _ _ c.pass_map.new.text c.in_err-write_pending.field-0.0.written c.in_ok-pass_map.ensures c.in_err-write_pending.ensures.passed)

pub returns : goal.returns
returns g c =
    let m = c.args.mapped.now in
    let text = map_text c.objects.result.now c.map.result.now in
    let is = ap₂ map_text c.objects.ensures c.map.ensures in
    lines_written
    (RelocationSays None m.objects m.map) _ c.in_ok-text.text text is c.in_ok-text.ensures.pending c.in_ok-text.ensures.written
    _ _ c.pass_map.new.text c.write_pending.new.self c.count_written.result c.in_ok-pass_map.ensures c.in_ok-write_pending.ensures.passed
    c.in_ok-write_pending.ensures.empty c.count_written.ensures.value c.count_written.ensures.fits
