use Rattle.std.proofs.Common.{◌≡◌}
use Rattle.elf_table_hash.proofs.name_hashes.NameHashes.keep_lanes.Given as goal

abbrev pub invariant-loop-k : goal.invariant-loop-k
invariant-loop-k l = l.self ≡ l.fn.self
