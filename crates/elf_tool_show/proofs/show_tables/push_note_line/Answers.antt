use Rattle.std.proofs.Common.{rules}
use Rattle.elf_tool_show.specs.Show.{note_line}
use Rattle.elf_tool_text.proofs.Public.{line_ended}
use Rattle.elf_tool_show.proofs.show_tables.push_note_line.Goals as goal

pub returns : goal.returns
unfolding note_line
returns c = line_ended c.end_line.result _ _ _ _ _ c.end_line.ensures (search rules)
