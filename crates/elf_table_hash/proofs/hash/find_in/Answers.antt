use Rattle.elf_table_hash.specs.HashTable.{hash_in}
use Rattle.elf_table_hash.proofs.HashSound.{probe_some}
use Rattle.elf_table_hash.proofs.hash.find_in.Goals as goal

pub returns-clause-some : goal.returns-clause-some
returns-clause-some c valid =
    let probed = rw (c.new-words.ensures, c.new-names.ensures) at c.probe_in.ensures.found in
    probe_some (hash_in c.args.order c.args.table.now c.args.symbols.now c.args.strings.now) c.args.name.now _ _ valid (probed valid)
