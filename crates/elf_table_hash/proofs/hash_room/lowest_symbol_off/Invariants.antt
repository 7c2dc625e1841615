use Rattle.std.proofs.Common.{ℕ, ◌<◌}
use Rattle.elf_table_hash.specs.HashTable.{IsOn, bucket_of, chain, name_of}
use Rattle.elf_table_hash.proofs.hash_room.lowest_symbol_off.Given as goal

abbrev pub invariant-loop-s : goal.invariant-loop-s
invariant-loop-s l = (k : ℕ) → 0 < k → k < l.s → IsOn (chain l.parts.words) (bucket_of l.parts.words (name_of l.parts.names k)) k
