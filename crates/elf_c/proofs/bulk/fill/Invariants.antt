use Rattle.std.proofs.Common.{◌≡◌, ◌≤◌, ◌<◌, ◌+◌, ℕ, Some, get_or, length}
use Rattle.elf_c.proofs.bulk.fill.Given as goal

-- the slots so far are filled
abbrev pub invariant-loop-k : goal.invariant-loop-k
invariant-loop-k g l = record {
  long : length l.buffer ≡ length l.initial.buffer;
  right : (j : ℕ) (d : _) → j < l.k → goal.F-post g l.entry (l.first + j) (Some (get_or l.buffer j d));
  others : (j : ℕ) (d : _) → l.k ≤ j → get_or l.buffer j d ≡ get_or l.initial.buffer j d;
}
