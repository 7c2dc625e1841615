-- The result is the lowest byte that two extents hold, or there is none; each extent up to the first overlap is looked at once. If the next
-- extent starts lower than the end of `last`, its start is that byte (`shared_at`). Otherwise it is the new `last` (`swept_more`); after
-- the last extent no byte is shared (`unshared`).
use Rattle.std.proofs.Common.{None, Some, ◌∙◌, arith}
use Rattle.elf_extent.proofs.ExtentLists.{shared_at, swept_more, unshared}
use Rattle.elf_extent.proofs.extent.sweep.Goals as goal

pub returns-then-next-last-clause-lowest : goal.returns-then-next-last-clause-lowest
returns-then-next-last-clause-lowest g c =
    (shared_at _ _ _ _ c.requires.ascending c.requires.nonempty c.loop-k.invariant.swept
    (rw c.loop-k.invariant.kept at c.at-next.ensures.value) c.if-next-last.true).lowest

pub returns-then-next-last-clause-looks : goal.returns-then-next-last-clause-looks
returns-then-next-last-clause-looks g c = (
  Some c.loop-k.k,
  (shared_at _ _ _ _ c.requires.ascending c.requires.nonempty c.loop-k.invariant.swept
      (rw c.loop-k.invariant.kept at c.at-next.ensures.value) c.if-next-last.true).first,
  omega (arith, c.loop-k.invariant.counted, c.at-next.ensures.counted),
)

pub loop-k-preserved : goal.loop-k-preserved
loop-k-preserved g c = record {
  kept = c.at-next.ensures.kept ∙ c.loop-k.invariant.kept;
  counted = omega (arith, c.loop-k.invariant.counted, c.at-next.ensures.counted);
  swept = swept_more _ _ _ _ c.requires.ascending c.requires.nonempty c.loop-k.invariant.swept
      (rw c.loop-k.invariant.kept at c.at-next.ensures.value) c.if-next-last.false;
}

pub returns-clause-lowest : goal.returns-clause-lowest
returns-clause-lowest g c = (unshared _ _ _ (omega arith) c.loop-k.invariant.swept).lowest

pub returns-clause-looks : goal.returns-clause-looks
returns-clause-looks g c = (
  None,
  (unshared _ _ _ (omega arith) c.loop-k.invariant.swept).first,
  omega (arith, c.loop-k.invariant.counted),
)
