use Rattle.std.proofs.Common.{[], ◌∷◌, rules}
use Rattle.std.specs.Fmt.{decimal, signed_decimal}
use Rattle.elf_tool_text.specs.Line.{hexadecimal}
use Rattle.elf_tool_show.specs.Show.{dynamic_line}
use Rattle.elf_tool_text.proofs.Public.{line_ended_by}
use Rattle.elf_tool_show.proofs.show_tables.push_dynamic_line.Goals as goal

pub returns : goal.returns
unfolding dynamic_line
returns c =
    line_ended_by c.end_line.result _ _ _ _
    (decimal c.args.i ∷ signed_decimal c.args.entry.d_tag ∷ hexadecimal c.args.entry.d_un ∷ []) _ c.end_line.ensures (search rules)
