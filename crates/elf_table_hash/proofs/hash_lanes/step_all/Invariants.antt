use Rattle.std.proofs.Common.{◌≡◌, ◌<◌, ◌≤◌, ℕ, get_or}
use Rattle.elf_table_hash.specs.HashTable.{hash_step}
use Rattle.elf_table_hash.proofs.hash_lanes.step_all.Given as goal

abbrev pub invariant-loop-hash : goal.invariant-loop-hash
invariant-loop-hash l = record {
  done : (k : ℕ) → k < l.hash-index → get_or l.hashes k 0 ≡ hash_step (get_or l.fn.hashes k 0) l.byte;
  left : (k : ℕ) → l.hash-index ≤ k → get_or l.hashes k 0 ≡ get_or l.fn.hashes k 0;
}
