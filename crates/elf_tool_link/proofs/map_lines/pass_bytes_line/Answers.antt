use Rattle.std.proofs.Common.{[], ◌∷◌, codes, rules}
use Rattle.std.specs.Fmt.{decimal}
use Rattle.elf_tool_link.specs.Map.{bytes_line}
use Rattle.elf_tool_link.proofs.MapLines.{line_after}
use Rattle.elf_tool_text.specs.Line.{bytes_text}
use Rattle.elf_tool_link.proofs.map_lines.pass_bytes_line.Goals as goal

pub returns : goal.returns
unfolding bytes_line
returns g c =
    let m = c.args.member in
    line_after _ _ _ _ c.as_bytes.result.now (codes "bytes") (decimal m.file ∷ decimal m.section ∷ []) (bytes_text c.args.bytes.now)
    c.pass_line_of_bytes.result (search rules) c.pass_line_of_bytes.ensures
