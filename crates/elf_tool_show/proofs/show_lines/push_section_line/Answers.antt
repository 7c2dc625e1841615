use Rattle.std.proofs.Common.{[], ◌∷◌, rules}
use Rattle.std.specs.Fmt.{decimal}
use Rattle.elf_tool_text.specs.Line.{hexadecimal, name_text}
use Rattle.elf_tool_show.specs.Show.{section_line}
use Rattle.elf_tool_text.proofs.Public.{line_ended_after}
use Rattle.elf_tool_show.proofs.show_lines.push_section_line.Goals as goal

pub returns : goal.returns
unfolding section_line
returns c =
    let s = c.args.section.now in
    line_ended_after c.end_line.result _ c.as_bytes.result.now _ _ _ (
    decimal c.args.index ∷ decimal s.sh_type ∷ hexadecimal s.sh_flags ∷ hexadecimal s.sh_addr ∷ hexadecimal s.sh_offset ∷ hexadecimal
    s.sh_size
    ∷ decimal s.sh_link ∷ decimal s.sh_info ∷ hexadecimal s.sh_addralign ∷ hexadecimal s.sh_entsize ∷ []
    ) (name_text c.args.name.now) c.end_line.ensures (search rules) (search rules)
