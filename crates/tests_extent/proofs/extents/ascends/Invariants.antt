use Rattle.std.proofs.Common.{◌≤◌}
use Rattle.std.specs.List.{AllAdjacentBelow}
use Rattle.tests_extent.proofs.extents.ascends.Given as goal

-- so far no start falls
abbrev pub invariant-loop-k : goal.invariant-loop-k
invariant-loop-k l = AllAdjacentBelow (λ e f. e.start ≤ f.start) l.extents l.k
