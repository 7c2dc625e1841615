use Rattle.std.proofs.Common.{List, ℕ, subst}
use Rattle.std.specs.List.{flat_map}
use Rattle.std.proofs.lemmas.Result.{err_from_is_err_and}
use Rattle.elf_link_outputs.specs.declared.placing.Member.{Member}
use Rattle.elf_link_outputs.specs.Placed.{output_value}
use Rattle.elf_tool_check.specs.declared.calls.ToolFault.TheVariants.{Write}
use Rattle.elf_tool_link.specs.Map.{member_text, output_line}
use Rattle.elf_tool_text.specs.Buffered.{IsPassed}
use Rattle.elf_tool_text.proofs.Public.{cut_longer, passed_after}
use Rattle.elf_tool_link.proofs.map_text.pass_output.Goals as goal

pub returns-in_err-pass_output_line : goal.returns-in_err-pass_output_line
returns-in_err-pass_output_line g c =
    let o = output_value c.args.output.now in
    let p = err_from_is_err_and c.from_residual.result c.from_residual.ensures.1 in
    rw (p.1, p.2)
    (cut_longer (g.W.Write.contents c.args.writer.now) (g.W.Write.contents c.pass_output_line.new.writer) c.args.text.now (output_line o)
    (flat_map (member_text c.args.objects.now c.args.link.now) o.members)
    (Write c.in_err-pass_output_line.field-0.0.written) c.in_err-pass_output_line.ensures)

pub returns : goal.returns
returns g c =
    let o = output_value c.args.output.now in
    let lines : List Member → List ℕ = flat_map (member_text c.args.objects.now c.args.link.now) in
    let members =
    subst (λ (ms : List Member). IsPassed (g.W.Write.contents c.pass_output_line.new.writer) (g.W.Write.contents c.pass_members.new.writer)
    c.pass_output_line.new.text c.pass_members.new.text (lines ms) c.pass_members.result) c.deref.ensures.value c.pass_members.ensures in
    passed_after _ _ _ c.args.text.now c.pass_output_line.new.text c.pass_members.new.text (output_line o)
    (lines o.members) c.pass_members.result
    c.in_ok-pass_output_line.ensures members
