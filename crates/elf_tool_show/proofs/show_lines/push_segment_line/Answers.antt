use Rattle.std.proofs.Common.{rules}
use Rattle.elf_tool_show.specs.Show.{segment_line}
use Rattle.elf_tool_text.proofs.Public.{line_appended}
use Rattle.elf_tool_show.proofs.show_lines.push_segment_line.Goals as goal

pub returns : goal.returns
unfolding segment_line
returns c =
    line_appended c.extend_from_slice.result c.args.text.now.items c.as_bytes.result.now _ _ _ (search rules) (search rules)
