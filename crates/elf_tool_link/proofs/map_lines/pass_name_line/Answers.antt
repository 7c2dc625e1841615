use Rattle.std.proofs.Common.{[], ◌∷◌, codes, rules}
use Rattle.elf_tool_link.specs.Map.{binding_text, name_line, value_text}
use Rattle.elf_tool_link.proofs.MapLines.{line_named}
use Rattle.elf_tool_link.proofs.map_lines.pass_name_line.Goals as goal

pub returns : goal.returns
unfolding name_line
returns g c =
    let n = c.args.named in
    line_named _ _ _ _ c.put-2.new.self (codes "name")
    (value_text c.args.value ∷ binding_text n.binding ∷ []) c.put_name-is_whole.result n.name.now
    c.pass_with_name.result (search rules) c.pass_with_name.ensures
