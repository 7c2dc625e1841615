use Rattle.std.proofs.Common.{List, ℕ, subst}
use Rattle.elf_link_outputs.specs.Placed.{no_placed}
use Rattle.elf_tool_link.specs.Map.{common_line, common_lines}
use Rattle.elf_tool_text.specs.Buffered.{IsPassed}
use Rattle.elf_tool_link.proofs.MapRefusals.{by_position}
use Rattle.elf_tool_link.proofs.map_text.pass_commons.Goals as goal

pub returns : goal.returns
unfolding common_lines
returns g c =
    subst (λ (t : List ℕ). IsPassed (g.W.Write.contents c.args.writer.now)
    (g.W.Write.contents c.pass_lines.new.writer) c.args.text.now c.pass_lines.new.output t c.pass_lines.result)
    (by_position common_line no_placed c.args.link.now.commons) c.pass_lines.ensures
