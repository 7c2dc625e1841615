use Rattle.elf_table_hash.specs.HashRules.{hash_parts_value}
use Rattle.elf_table_hash.proofs.HashSound.{linked_words}
use Rattle.elf_table_hash.proofs.hash_rules.validate_words.Goals as goal

pub returns-in-None-clause-linked : goal.returns-in-None-clause-linked
returns-in-None-clause-linked c =
    let whole = rw (c.nbucket-nbucket.ensures, c.nchain-nchain.ensures) at c.if-parts-nbucket.false in
    linked_words (hash_parts_value c.args.parts.now) c.args.parts.now.sized whole c.in-None.ensures
