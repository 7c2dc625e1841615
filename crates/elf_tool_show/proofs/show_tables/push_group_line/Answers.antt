use Rattle.std.proofs.Common.{[], ◌∷◌, rules}
use Rattle.std.specs.Fmt.{decimal}
use Rattle.elf_tool_text.specs.Line.{name_text}
use Rattle.elf_tool_show.specs.Show.{group_line}
use Rattle.elf_tool_text.proofs.Public.{line_ended_by}
use Rattle.elf_tool_show.proofs.show_tables.push_group_line.Goals as goal

pub returns : goal.returns
unfolding group_line
returns c =
    line_ended_by c.end_line.result _ _ _ _
    (decimal c.args.i ∷ decimal c.args.group.now.flags ∷ name_text c.args.name.now ∷ []) _ c.end_line.ensures (search rules)
