use Rattle.elf_image_rules.proofs.Public.{FirstIn-later, FirstIn-sooner}
use Rattle.elf_table_symbols.proofs.Public.{tested_handed, tested_later}
use Rattle.elf_table_lists.specs.Groups.{group_section_front, group_section_rules}
use Rattle.elf_table_lists.proofs.group.validate_group_section.Goals as goal

pub returns-in_err-validate_own_rules-clause-validated : goal.returns-in_err-validate_own_rules-clause-validated
unfolding group_section_rules
returns-in_err-validate_own_rules-clause-validated c =
    tested_handed _ _ _ _ _ (FirstIn-sooner _ _ _ c.in_err-validate_own_rules.ensures.fault) c.from_residual.ensures.1

pub returns-in_err-of-clause-validated : goal.returns-in_err-of-clause-validated
unfolding group_section_rules
returns-in_err-of-clause-validated c =
    tested_handed _ _ _ _ _ (FirstIn-later _ _ _ c.in_ok-validate_own_rules.ensures.fault (FirstIn-sooner _ _ _ c.in_err-of.ensures))
    c.from_residual-in_err-of.ensures.1

pub returns-clause-validated : goal.returns-clause-validated
unfolding group_section_front group_section_rules
returns-clause-validated c =
    tested_later _ _ _ _ _ c.in_ok-validate_own_rules.ensures.fault
    (tested_later _ _ _ _ _ c.in_ok-of.ensures c.validate_group.ensures.validated)
