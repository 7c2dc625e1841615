use Rattle.std.proofs.Common.{rules}
use Rattle.elf_tool_link.specs.Map.{file_refused_line}
use Rattle.elf_tool_text.proofs.Public.{line_ended}
use Rattle.elf_tool_link.proofs.map_lines.push_file_refused_line.Goals as goal

pub returns : goal.returns
unfolding file_refused_line
returns c = line_ended c.end_line.result _ _ _ _ _ c.end_line.ensures (search rules)
