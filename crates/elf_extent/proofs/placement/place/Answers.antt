use Rattle.std.proofs.Common.{◌+◌, sym, subst, arith}
use Rattle.elf_extent.proofs.PlaceLemmas.{ArePlaced, placed_more, overflow_at, no_place_at, placed_all}
use Rattle.elf_extent.proofs.placement.place.Goals as goal

pub returns-in_default-clause-err : goal.returns-in_default-clause-err
returns-in_default-clause-err c =
    no_place_at c.args.parts.now c.args.from c.loop-index.index c.loop-index.cursor _ _
    c.loop-index-test.true c.loop-index.invariant c.in_default.ensures

pub returns-in_default-checked_add-clause-err : goal.returns-in_default-checked_add-clause-err
returns-in_default-checked_add-clause-err c =
    overflow_at c.args.parts.now c.args.from c.loop-index.index c.loop-index.cursor c.in-Some.start _ _
    c.loop-index-test.true c.loop-index.invariant c.in-Some.ensures
    (let past = c.in_default-checked_add.ensures in omega arith)

pub loop-index-preserved : goal.loop-index-preserved
loop-index-preserved c =
    let end = c.in-Some-checked_add.ensures in
    subst (λ x. ArePlaced c.args.parts.now c.args.from (c.loop-index.index + 1) x c.push.new.self.items)
    (sym end.1)
    (subst (ArePlaced c.args.parts.now c.args.from (c.loop-index.index + 1) _)
    (sym c.in-Ok.ensures.items)
    (placed_more c.args.parts.now c.args.from c.loop-index.index c.loop-index.cursor
    c.in-Some.start c.loop-index.places.items _ c.loop-index-test.true c.loop-index.invariant
    c.in-Some.ensures end.0))

pub returns-clause-least : goal.returns-clause-least
returns-clause-least c =
    placed_all c.args.parts.now c.args.from _ _ _ c.loop-index-test.false c.loop-index.invariant
