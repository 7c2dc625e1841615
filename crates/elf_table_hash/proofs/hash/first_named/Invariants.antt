use Rattle.elf_table_hash.specs.HashTable.{IsEndingChain}
use Rattle.elf_table_hash.proofs.HashSound.{IsWalked}
use Rattle.elf_table_hash.proofs.hash.first_named.Given as goal

abbrev pub invariant-loop-steps : goal.invariant-loop-steps
invariant-loop-steps l = IsEndingChain l.words l.names l.start → IsWalked l.words l.names l.name l.start l.steps l.s
