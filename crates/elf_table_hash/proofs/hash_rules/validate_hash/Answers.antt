use Rattle.elf_image_rules.proofs.Public.{FirstIn-later}
use Rattle.elf_table_symbols.proofs.Public.{tested_handed, tested_stop}
use Rattle.elf_table_hash.specs.HashRules.{hash_rules}
use Rattle.elf_table_hash.proofs.hash_rules.validate_hash.Goals as goal

pub returns-in_err-validate_words-clause-validated : goal.returns-in_err-validate_words-clause-validated
unfolding hash_rules
returns-in_err-validate_words-clause-validated c =
    let run = rw c.new-parts.ensures.value at c.in_err-validate_words.ensures.fault in
    tested_stop _ _ _ _ _ _ run c.from_residual.ensures.1

pub returns-in_err-verdict-2-clause-validated : goal.returns-in_err-verdict-2-clause-validated
unfolding hash_rules
returns-in_err-verdict-2-clause-validated c =
    let words = rw c.new-parts.ensures.value at c.in_ok-validate_words.ensures.fault in
    let chains = rw (c.in_err-verdict-2.was, c.new-parts.ensures.value) at c.in_ok-verdict.ensures.verdict in
    tested_handed _ _ _ _ _ (FirstIn-later _ _ _ words chains) c.from_residual-in_err-verdict-2.ensures.1

pub returns-clause-validated : goal.returns-clause-validated
unfolding hash_rules
returns-clause-validated c =
    let words = rw c.new-parts.ensures.value at c.in_ok-validate_words.ensures.fault in
    let chains = rw (c.in_ok-verdict-2.was, c.new-parts.ensures.value) at c.in_ok-verdict.ensures.verdict in
    (FirstIn-later _ _ _ words chains, tt)
