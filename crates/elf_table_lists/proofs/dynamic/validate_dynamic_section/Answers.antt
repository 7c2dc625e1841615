use Rattle.elf_image_rules.proofs.Public.{FirstIn-later, FirstIn-stop}
use Rattle.elf_table_lists.specs.Dynamic.{dynamic_section_rules}
use Rattle.elf_table_lists.proofs.dynamic.validate_dynamic_section.Goals as goal

pub returns-in_err-validate_own_rules : goal.returns-in_err-validate_own_rules
unfolding dynamic_section_rules
returns-in_err-validate_own_rules c = FirstIn-stop _ _ _ _ c.in_err-validate_own_rules.ensures.fault c.from_residual.ensures.1

pub returns-in_err-validate_linked_strings : goal.returns-in_err-validate_linked_strings
unfolding dynamic_section_rules
returns-in_err-validate_linked_strings c =
    let run = rw (c.linked_content.ensures.bytes, c.linked_header.ensures) at c.in_err-validate_linked_strings.ensures in
    FirstIn-later _ _ _ c.in_ok-validate_own_rules.ensures.fault
    (FirstIn-stop _ _ _ _ run c.from_residual-in_err-validate_linked_strings.ensures.1)

pub returns : goal.returns
unfolding dynamic_section_rules
returns c =
    let run = rw (c.linked_content.ensures.bytes, c.linked_header.ensures) at c.in_ok-validate_linked_strings.ensures in
    FirstIn-later _ _ _ c.in_ok-validate_own_rules.ensures.fault (FirstIn-later _ _ _ run c.validate_dynamic_array.ensures)
