-- The result is the first part that overflows, or all parts fit. A part that has no place in a u64, or ends past it, is the overflow
-- (`no_place_at`, `overflow_at`). Each other part gets its least place (`placed_more`), and at the end these are least places of all parts
-- (`placed_all`).
use Rattle.std.proofs.Common.{◌+◌, ◌++◌, [], ◌∷◌, sym, subst, arith}
use Rattle.elf_extent.proofs.PlaceLemmas.{ArePlaced, placed_more, overflow_at, no_place_at, placed_all}
use Rattle.elf_extent.proofs.placement.first_overflow.Goals as goal

pub returns-in_default : goal.returns-in_default
returns-in_default c =
    no_place_at c.args.parts.now c.args.from c.loop-index.index c.loop-index.cursor
    c.loop-index.invariant.0 _ c.loop-index-test.true c.loop-index.invariant.1 c.in_default.ensures

pub returns-in_default-checked_add : goal.returns-in_default-checked_add
returns-in_default-checked_add c =
    overflow_at c.args.parts.now c.args.from c.loop-index.index c.loop-index.cursor c.in-Some.start
    c.loop-index.invariant.0 _ c.loop-index-test.true c.loop-index.invariant.1 c.in-Some.ensures
    (let past = c.in_default-checked_add.ensures in omega arith)

pub loop-index-preserved : goal.loop-index-preserved
loop-index-preserved c =
    let end = c.in-Some-checked_add.ensures in
    let places = c.loop-index.invariant.0 in (
      places ++ c.in-Some.start ∷ [],
      subst (λ x. ArePlaced c.args.parts.now c.args.from (c.loop-index.index + 1) x (places ++ c.in-Some.start ∷ []))
          (sym end.1)
          (placed_more c.args.parts.now c.args.from c.loop-index.index c.loop-index.cursor c.in-Some.start places _
          c.loop-index-test.true c.loop-index.invariant.1 c.in-Some.ensures end.0),
    )

pub returns : goal.returns
returns c =
    let placed = c.loop-index.invariant.1 in (
      c.loop-index.invariant.0,
      placed_all c.args.parts.now c.args.from _ _ _ c.loop-index-test.false placed,
      λ k lt. let done = c.loop-index-test.false in placed.fits k (omega arith),
    )
