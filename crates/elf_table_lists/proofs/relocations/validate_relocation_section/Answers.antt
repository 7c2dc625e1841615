use Rattle.elf_image_rules.proofs.Public.{FirstIn-later, FirstIn-stop}
use Rattle.elf_table_lists.specs.Relocations.{relocation_section_rules}
use Rattle.elf_table_lists.proofs.relocations.validate_relocation_section.Goals as goal

pub returns-in_err-validate_own_rules : goal.returns-in_err-validate_own_rules
unfolding relocation_section_rules
returns-in_err-validate_own_rules c = FirstIn-stop _ _ _ _ c.in_err-validate_own_rules.ensures.fault c.from_residual.ensures.1

pub returns-in_err-of : goal.returns-in_err-of
unfolding relocation_section_rules
returns-in_err-of c =
    FirstIn-later _ _ _ c.in_ok-validate_own_rules.ensures.fault
    (FirstIn-stop _ _ _ _ c.in_err-of.ensures c.from_residual-in_err-of.ensures.1)

pub returns : goal.returns
unfolding relocation_section_rules
returns c =
    FirstIn-later _ _ _ c.in_ok-validate_own_rules.ensures.fault (FirstIn-later _ _ _ c.in_ok-of.ensures c.validate_relocations.ensures)
