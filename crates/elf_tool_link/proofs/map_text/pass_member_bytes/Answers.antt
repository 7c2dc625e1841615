use Rattle.std.proofs.Common.{List, ℕ, subst}
use Rattle.elf_link_map.specs.Standing.{no_member}
use Rattle.elf_tool_link.specs.Map.{member_bytes}
use Rattle.elf_tool_text.specs.Buffered.{IsPassed}
use Rattle.elf_tool_link.proofs.MapRefusals.{by_position}
use Rattle.elf_tool_link.proofs.map_text.pass_member_bytes.Goals as goal

pub returns : goal.returns
returns g c =
    subst (λ (t : List ℕ). IsPassed (g.W.Write.contents c.args.writer.now)
    (g.W.Write.contents c.pass_lines.new.writer) c.args.text.now c.pass_lines.new.output t c.pass_lines.result)
    (by_position (member_bytes c.args.linked.now) no_member c.args.members.now) c.pass_lines.ensures
