use Rattle.std.proofs.Common.{List, ℕ, subst}
use Rattle.elf_link_outputs.specs.Placed.{no_output}
use Rattle.elf_tool_link.specs.Map.{bytes_lines, output_bytes}
use Rattle.elf_tool_text.specs.Buffered.{IsPassed}
use Rattle.elf_tool_link.proofs.MapRefusals.{by_position}
use Rattle.elf_tool_link.proofs.map_text.pass_relocated.Goals as goal

pub returns : goal.returns
unfolding bytes_lines
returns g c =
    subst (λ (t : List ℕ). IsPassed (g.W.Write.contents c.args.writer.now)
    (g.W.Write.contents c.pass_lines.new.writer) c.args.text.now c.pass_lines.new.output t c.pass_lines.result)
    (by_position (output_bytes c.args.linked.now) no_output c.args.linked.now.map.outputs) c.pass_lines.ensures
