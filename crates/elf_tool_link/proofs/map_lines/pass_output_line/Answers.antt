use Rattle.std.proofs.Common.{[], ◌∷◌, codes, rules}
use Rattle.elf_tool_link.specs.Map.{bits_text, output_line}
use Rattle.elf_tool_link.proofs.MapLines.{line_named}
use Rattle.elf_tool_text.specs.Line.{hexadecimal}
use Rattle.elf_tool_link.proofs.map_lines.pass_output_line.Goals as goal

pub returns : goal.returns
unfolding output_line
returns g c =
    let o = c.args.output.now in
    line_named _ _ _ _ c.put-2.new.self (codes "output")
    (hexadecimal o.address ∷ hexadecimal o.length ∷ bits_text o.no_bits ∷ hexadecimal o.flags ∷ [])
    c.put_name-is_whole.result o.name.now c.pass_with_name.result (search rules) c.pass_with_name.ensures
