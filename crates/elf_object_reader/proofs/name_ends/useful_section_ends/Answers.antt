use Rattle.std.proofs.Common.{map, sym, ◌∙◌}
use Rattle.elf_object_reader.specs.FileRules.{sections_of_file}
use Rattle.elf_object_reader.specs.NameEnds.{is_long}
use Rattle.elf_object_type.specs.Object.{SectionValue}
use Rattle.elf_object_type.specs.ObjectView.{section_value}
use Rattle.elf_object_reader.proofs.NameTails.{list_any_of_map, section_all, section_none}
use Rattle.elf_object_reader.proofs.name_ends.useful_section_ends.Goals as goal

pub returns-then-has_long_section : goal.returns-then-has_long_section
returns-then-has_long_section c =
    let sections = c.args.sections.now in
    let some = list_any_of_map (λ (s : SectionValue). is_long s.name) section_value sections ∙ sym c.has_long_section.ensures ∙
    c.if-has_long_section.true in
    rw (section_all _ _ _ some) c.section_ends.ensures

pub returns-else-has_long_section : goal.returns-else-has_long_section
returns-else-has_long_section c =
    let sections = c.args.sections.now in
    let file = c.args.reader.now.file in
    let none = list_any_of_map (λ (s : SectionValue). is_long s.name) section_value sections ∙ sym c.has_long_section.ensures ∙
    c.if-has_long_section.false in
    c.new.ensures.items ∙ sym (section_none (map section_value sections) file.left (sections_of_file file) none)
