use Rattle.elf_image_rules.proofs.Public.{FirstIn-later, FirstIn-stop}
use Rattle.elf_table_hash.specs.HashRules.{hash_rules}
use Rattle.elf_table_hash.proofs.hash_room.validate_hash_in.Goals as goal

pub returns-in_err-validate_words-clause-fault : goal.returns-in_err-validate_words-clause-fault
unfolding hash_rules
returns-in_err-validate_words-clause-fault c =
    let run = rw c.new-parts.ensures.value at c.in_err-validate_words.ensures.fault in
    FirstIn-stop _ _ _ _ run c.from_residual.ensures.1

pub returns-clause-fault : goal.returns-clause-fault
unfolding hash_rules
returns-clause-fault c =
    let words = rw c.new-parts.ensures.value at c.in_ok-validate_words.ensures.fault in
    let chains = rw c.new-parts.ensures.value at c.validate_chains_in.ensures.fault in
    FirstIn-later _ _ _ words chains
