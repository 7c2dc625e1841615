use Rattle.std.proofs.Common.{[], ◌∷◌, codes, rules}
use Rattle.std.specs.Fmt.{decimal}
use Rattle.elf_tool_link.specs.Map.{discarded_line}
use Rattle.elf_tool_text.proofs.Public.{line_at_once}
use Rattle.elf_tool_link.proofs.map_lines.pass_discarded_line.Goals as goal

pub returns : goal.returns
unfolding discarded_line
returns g c =
    line_at_once _ _ _ _ c.as_bytes.result.now (codes "discarded") (decimal c.args.file ∷ decimal c.args.section ∷ []) c.pass.result
    (search rules) c.pass.ensures
