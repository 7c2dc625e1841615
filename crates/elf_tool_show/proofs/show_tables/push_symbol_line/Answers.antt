use Rattle.std.proofs.Common.{[], ◌∷◌, rules}
use Rattle.std.specs.Fmt.{decimal}
use Rattle.elf_tool_text.specs.Line.{hexadecimal, name_text}
use Rattle.elf_tool_show.specs.Show.{place_text, symbol_line}
use Rattle.elf_tool_text.proofs.Public.{line_ended_after}
use Rattle.elf_tool_show.proofs.show_tables.push_symbol_line.Goals as goal

pub returns : goal.returns
unfolding symbol_line
returns c =
    let s = c.args.symbol.now in
    line_ended_after c.end_line.result _ c.as_bytes.result.now _ _ _ (
    decimal c.args.i ∷ decimal c.args.j ∷ decimal s.binding ∷ decimal s.symbol_type ∷ decimal s.other ∷ place_text s.place
    ∷ hexadecimal s.value ∷ hexadecimal s.size ∷ []
    ) (name_text s.name.now) c.end_line.ensures (search rules) (search rules)
