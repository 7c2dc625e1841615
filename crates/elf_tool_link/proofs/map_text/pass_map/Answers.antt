-- The lines are passed on kind by kind. If one kind stops, a beginning of the text was passed on: those before it are in front, and those
-- to come are after it.
use Rattle.std.proofs.Common.{◌++◌}
use Rattle.std.proofs.lemmas.Result.{err_from_is_err_and}
use Rattle.elf_tool_check.specs.declared.calls.ToolFault.TheVariants.{Write}
use Rattle.elf_tool_link.specs.Map.{common_lines, discarded_lines, map_text, name_lines, output_lines}
use Rattle.elf_tool_text.proofs.Public.{cut_later, cut_longer, passed_after, stopped_between}
use Rattle.elf_tool_link.proofs.map_text.pass_map.Goals as goal

pub returns-in_err-pass_outputs : goal.returns-in_err-pass_outputs
unfolding map_text
returns-in_err-pass_outputs g c =
    let m = c.args.link.now in
    let fs = c.args.objects.now in
    let p = err_from_is_err_and c.from_residual.result c.from_residual.ensures.1 in
    rw (p.1, p.2)
    (cut_longer (g.W.Write.contents c.args.writer.now) (g.W.Write.contents c.pass_outputs.new.writer) c.args.text.now (output_lines fs m)
    (common_lines m ++ (discarded_lines fs m ++ name_lines fs m))
    (Write c.in_err-pass_outputs.field-0.0.written) c.in_err-pass_outputs.ensures)

pub returns-in_err-pass_commons : goal.returns-in_err-pass_commons
unfolding map_text
returns-in_err-pass_commons g c =
    let m = c.args.link.now in
    let fs = c.args.objects.now in
    let p = err_from_is_err_and c.from_residual-in_err-pass_commons.result c.from_residual-in_err-pass_commons.ensures.1 in
    rw (p.1, p.2)
    (stopped_between (g.W.Write.contents c.args.writer.now) (g.W.Write.contents c.pass_outputs.new.writer)
    (g.W.Write.contents c.pass_commons.new.writer)
    c.args.text.now c.pass_outputs.new.text (output_lines fs m) (common_lines m)
    (discarded_lines fs m ++ name_lines fs m) c.in_err-pass_commons.field-0.0.written
    c.in_ok-pass_outputs.ensures c.in_err-pass_commons.ensures)

pub returns-in_err-pass_discarded : goal.returns-in_err-pass_discarded
unfolding map_text
returns-in_err-pass_discarded g c =
    let m = c.args.link.now in
    let fs = c.args.objects.now in
    let at = g.W.Write.contents in
    let w = c.in_err-pass_discarded.field-0.0.written in
    let p = err_from_is_err_and c.from_residual-in_err-pass_discarded.result c.from_residual-in_err-pass_discarded.ensures.1 in
    rw (p.1, p.2)
    (cut_later (at c.args.writer.now) (at c.pass_outputs.new.writer)
    (at c.pass_discarded.new.writer) c.args.text.now c.pass_outputs.new.text (output_lines fs m)
    (common_lines m ++ (discarded_lines fs m ++ name_lines fs m)) (Write w) c.in_ok-pass_outputs.ensures
    (stopped_between (at c.pass_outputs.new.writer) (at c.pass_commons.new.writer)
    (at c.pass_discarded.new.writer) c.pass_outputs.new.text c.pass_commons.new.text
    (common_lines m) (discarded_lines fs m) (name_lines fs m) w c.in_ok-pass_commons.ensures c.in_err-pass_discarded.ensures))

pub returns : goal.returns
unfolding map_text
returns g c =
    let m = c.args.link.now in
    let fs = c.args.objects.now in
    let r = c.pass_names.result in
    let q = c.pass_names.new.text in
    passed_after _ _ _ c.args.text.now c.pass_outputs.new.text q (output_lines fs m)
    (common_lines m ++ (discarded_lines fs m ++ name_lines fs m)) r c.in_ok-pass_outputs.ensures
    (passed_after _ _ _ c.pass_outputs.new.text c.pass_commons.new.text q (common_lines m)
    (discarded_lines fs m ++ name_lines fs m) r c.in_ok-pass_commons.ensures
    (passed_after _ _ _ c.pass_commons.new.text c.pass_discarded.new.text q (discarded_lines fs m)
    (name_lines fs m) r c.in_ok-pass_discarded.ensures c.pass_names.ensures))
