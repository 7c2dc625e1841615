use Rattle.elf_image_rules.proofs.Public.{FirstIn-later, FirstIn-stop}
use Rattle.elf_table_hash.specs.HashRules.{hash_table_rules}
use Rattle.elf_table_hash.proofs.hash_room.validate_hash_table_in.Goals as goal

pub returns-in_err-validate_own_rules-clause-fault : goal.returns-in_err-validate_own_rules-clause-fault
unfolding hash_table_rules
returns-in_err-validate_own_rules-clause-fault c =
    FirstIn-stop _ _ _ _ c.in_err-validate_own_rules.ensures.fault c.from_residual.ensures.1

pub returns-in_err-of-clause-fault : goal.returns-in_err-of-clause-fault
unfolding hash_table_rules
returns-in_err-of-clause-fault c =
    FirstIn-later _ _ _ c.in_ok-validate_own_rules.ensures.fault
    (FirstIn-stop _ _ _ _ c.in_err-of.ensures c.from_residual-in_err-of.ensures.1)

pub returns-clause-fault : goal.returns-clause-fault
unfolding hash_table_rules
returns-clause-fault c =
    FirstIn-later _ _ _ c.in_ok-validate_own_rules.ensures.fault
    (FirstIn-later _ _ _ c.in_ok-of.ensures c.validate_hash_in.ensures.fault)
