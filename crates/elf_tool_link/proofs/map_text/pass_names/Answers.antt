use Rattle.std.proofs.Common.{List, ℕ, subst}
use Rattle.elf_link_map.specs.LinkMap.{no_name}
use Rattle.elf_tool_link.specs.Map.{name_lines, named_text}
use Rattle.elf_tool_text.specs.Buffered.{IsPassed}
use Rattle.elf_tool_link.proofs.MapRefusals.{by_position}
use Rattle.elf_tool_link.proofs.map_text.pass_names.Goals as goal

pub returns : goal.returns
unfolding name_lines
returns g c =
    subst (λ (t : List ℕ). IsPassed (g.W.Write.contents c.args.writer.now)
    (g.W.Write.contents c.pass_lines.new.writer) c.args.text.now c.pass_lines.new.output t c.pass_lines.result)
    (by_position (named_text c.args.objects.now c.args.link.now) no_name c.args.link.now.bindings) c.pass_lines.ensures
