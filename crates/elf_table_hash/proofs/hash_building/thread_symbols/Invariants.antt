use Rattle.std.proofs.Common.{◌≡◌, ◌≤◌, length, map}
use Rattle.elf_table_hash.specs.HashTable.{nbucket, nchain}
use Rattle.elf_table_hash.specs.ChainDepths.{IsThreaded}
use Rattle.elf_table_hash.proofs.hash_building.thread_symbols.Given as goal

abbrev pub invariant-symbols : goal.invariant-symbols
invariant-symbols l = record {
  threaded : IsThreaded l.words (map (λ name. name.now) l.names) l.s;
  buckets : nbucket l.words ≡ nbucket l.fn.words;
  symbols : nchain l.words ≡ nchain l.fn.words;
  some : 1 ≤ l.s;
  within : l.s ≤ length l.names;
}

abbrev pub decreases-symbols : goal.decreases-symbols
decreases-symbols l = l.s
