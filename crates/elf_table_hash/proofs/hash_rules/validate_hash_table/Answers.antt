use Rattle.elf_table_symbols.proofs.Public.{tested_later, tested_stop}
use Rattle.elf_table_hash.specs.HashRules.{hash_table_front, hash_table_rules}
use Rattle.elf_table_hash.proofs.hash_rules.validate_hash_table.Goals as goal

pub returns-in_err-validate_own_rules-clause-validated : goal.returns-in_err-validate_own_rules-clause-validated
unfolding hash_table_front hash_table_rules
returns-in_err-validate_own_rules-clause-validated c =
    tested_stop _ _ _ _ _ _ c.in_err-validate_own_rules.ensures.fault c.from_residual.ensures.1

pub returns-in_err-of-clause-validated : goal.returns-in_err-of-clause-validated
unfolding hash_table_front hash_table_rules
returns-in_err-of-clause-validated c =
    tested_later _ _ _ _ _ c.in_ok-validate_own_rules.ensures.fault
    (tested_stop _ _ _ _ _ _ c.in_err-of.ensures c.from_residual-in_err-of.ensures.1)

pub returns-clause-validated : goal.returns-clause-validated
unfolding hash_table_front hash_table_rules
returns-clause-validated c =
    tested_later _ _ _ _ _ c.in_ok-validate_own_rules.ensures.fault
    (tested_later _ _ _ _ _ c.in_ok-of.ensures c.validate_hash.ensures.validated)
