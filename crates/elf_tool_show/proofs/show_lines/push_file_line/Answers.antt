use Rattle.std.proofs.Common.{rules}
use Rattle.elf_tool_show.specs.Show.{file_line}
use Rattle.elf_tool_text.proofs.Public.{line_ended}
use Rattle.elf_tool_show.proofs.show_lines.push_file_line.Goals as goal

pub returns : goal.returns
unfolding file_line
returns c = line_ended c.end_line.result _ _ _ _ _ c.end_line.ensures (search rules)
