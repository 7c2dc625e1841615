use Rattle.std.proofs.Common.{[], ◌∷◌, codes, rules}
use Rattle.elf_tool_link.specs.Map.{common_line}
use Rattle.elf_tool_link.proofs.MapLines.{line_named}
use Rattle.elf_tool_text.specs.Line.{hexadecimal}
use Rattle.elf_tool_link.proofs.map_lines.pass_common_line.Goals as goal

pub returns : goal.returns
unfolding common_line
returns g c =
    let o = c.args.common.now in
    line_named _ _ _ _ c.put-2.new.self (codes "common")
    (hexadecimal o.address ∷ hexadecimal o.size ∷ []) c.put_name-is_whole.result o.name.now
    c.pass_with_name.result (search rules) c.pass_with_name.ensures
