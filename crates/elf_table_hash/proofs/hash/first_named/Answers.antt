-- If the chain ends, the result is its first symbol with the name, or none has it (`walk_found`, `walk_ended`). Each symbol that is passed
-- does not have it (`walk_more`). A chain that ends has fewer symbols than there are, so the loop does not run out (`walk_short`).
use Rattle.std.proofs.Common.{◌+◌, arith, sym, subst, ◌∙◌}
use Rattle.std.proofs.lemmas.Bool.{false≢true}
use Rattle.elf_table_hash.proofs.HashSound.{IsWalked, walk_begins, walk_ended, walk_found, walk_more, walk_short, walk_shorter}
use Rattle.elf_table_hash.proofs.hash.first_named.Goals as goal

pub loop-steps-init : goal.loop-steps-init
loop-steps-init c chained = walk_begins _ _ _ _ chained

pub returns-then-s-eq0-clause-found : goal.returns-then-s-eq0-clause-found
returns-then-s-eq0-clause-found c chained =
    walk_ended _ _ c.args.name.now c.args.start c.loop-steps.steps c.loop-steps.s (c.loop-steps.invariant chained) c.if-s-eq0.true

pub returns-then-s-eq0-clause-few : goal.returns-then-s-eq0-clause-few
returns-then-s-eq0-clause-few c chained =
    walk_short c.args.words.now c.args.names.now c.args.name.now c.args.start c.loop-steps.steps c.loop-steps.s chained
    (c.loop-steps.invariant chained)

pub returns-then-has-clause-found : goal.returns-then-has-clause-found
returns-then-has-clause-found c chained =
    walk_found _ _ c.args.name.now c.args.start c.loop-steps.steps c.loop-steps.s (c.loop-steps.invariant chained) c.if-s-eq0.false
    (c.has.ensures.0 c.if-has.true).1

pub returns-then-has-clause-few : goal.returns-then-has-clause-few
returns-then-has-clause-few c chained =
    walk_shorter c.args.words.now c.args.names.now c.args.name.now c.args.start c.loop-steps.steps c.loop-steps.s chained
    (c.loop-steps.invariant chained) c.if-s-eq0.false

pub loop-steps-preserved : goal.loop-steps-preserved
loop-steps-preserved c chained =
    let walked = c.loop-steps.invariant chained in
    let counted = chained.valid.one_each in
    let inside = walked.inside in
    subst (IsWalked c.args.words.now c.args.names.now c.args.name.now c.args.start (c.loop-steps.steps + 1)) (sym c.chain_or_zero-s.ensures)
    (walk_more _ _ c.args.name.now c.args.start c.loop-steps.steps c.loop-steps.s chained walked c.if-s-eq0.false
    (λ named. false≢true (sym c.if-has.false ∙ c.has.ensures.1 (omega arith, named))))

pub returns-clause-found : goal.returns-clause-found
returns-clause-found c chained =
    let short = walk_short c.args.words.now c.args.names.now c.args.name.now c.args.start c.loop-steps.steps c.loop-steps.s chained
    (c.loop-steps.invariant chained) in
    absurd (omega arith)

pub returns-clause-few : goal.returns-clause-few
returns-clause-few c chained =
    let short = walk_short c.args.words.now c.args.names.now c.args.name.now c.args.start c.loop-steps.steps c.loop-steps.s chained
    (c.loop-steps.invariant chained) in
    absurd (omega arith)
