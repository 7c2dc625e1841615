use Rattle.std.proofs.Common.{[], ◌∷◌, codes, rules}
use Rattle.std.specs.Fmt.{decimal}
use Rattle.elf_tool_link.specs.Map.{member_line}
use Rattle.elf_tool_text.proofs.Public.{line_at_once}
use Rattle.elf_tool_text.specs.Line.{hexadecimal}
use Rattle.elf_tool_link.proofs.map_lines.pass_member_line.Goals as goal

pub returns : goal.returns
unfolding member_line
returns g c =
    let m = c.args.member in
    line_at_once _ _ _ _ c.as_bytes.result.now (codes "member")
    (hexadecimal c.args.address ∷ hexadecimal c.args.size ∷ decimal m.file ∷ decimal m.section ∷ [])
    c.pass.result (search rules) c.pass.ensures
