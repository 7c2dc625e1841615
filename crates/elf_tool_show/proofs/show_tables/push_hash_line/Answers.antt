use Rattle.std.proofs.Common.{rules}
use Rattle.elf_tool_show.specs.Show.{hash_line}
use Rattle.elf_tool_text.proofs.Public.{line_ended}
use Rattle.elf_tool_show.proofs.show_tables.push_hash_line.Goals as goal

pub returns : goal.returns
unfolding hash_line
returns c = line_ended c.end_line.result _ _ _ _ _ c.end_line.ensures (search rules)
