use Rattle.std.proofs.Common.{◌≡◌, ℕ, ◌<◌, get_or, length}
use Rattle.elf_table_hash.proofs.hash_chains.begin.Given as goal

abbrev pub invariant-loop-k : goal.invariant-loop-k
invariant-loop-k l = record {
  depth : length l.depth ≡ length l.initial.depth;
  jump : length l.jump ≡ length l.initial.jump;
  none : (j : ℕ) → j < l.k → get_or l.depth j 0 ≡ 0;
  own : (j : ℕ) → j < l.k → get_or l.jump j 0 ≡ j;
}
