use Rattle.std.proofs.Common.{◌≡◌, ◌<◌, ℕ, fold, get_or, take}
use Rattle.elf_table_hash.specs.HashTable.{hash_step}
use Rattle.elf_table_hash.specs.NameHashes.{LANES}
use Rattle.elf_table_hash.proofs.hash_lanes.hash_all.Given as goal

abbrev pub invariant-loop-byte : goal.invariant-loop-byte
invariant-loop-byte l = (k : ℕ) → k < LANES → get_or l.hashes k 0 ≡ fold hash_step (get_or l.fn.hashes k 0) (take l.byte-index l.name)
