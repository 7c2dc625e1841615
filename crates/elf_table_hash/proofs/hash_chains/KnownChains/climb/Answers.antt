-- Each step puts the symbol at the end of the path (`path_push`). A path of as many symbols as there are has no end (`long_endless`).
use Rattle.std.proofs.Common.{◌≤◌, ◌∙◌, arith, length, take}
use Rattle.std.proofs.lemmas.List.{length-set, length-take-le, take_more_set}
use Rattle.elf_table_hash.proofs.Chains.{long_endless, path_push}
use Rattle.elf_table_hash.proofs.hash_chains.KnownChains.climb.Goals as goal

pub returns-then-count-symbols-clause-endless : goal.returns-then-count-symbols-clause-endless
returns-then-count-symbols-clause-endless c =
    let was = c.steps.invariant in
    let few = rw (← c.self.view_is) at was.few in
    let room = rw (← c.self.view_is) at c.requires.room in
    let long = was.long in
    let all = c.nchain-symbols.ensures in
    let past = c.if-count-symbols.true in
    let many = length-take-le c.steps.count c.steps.path (omega arith) in
    long_endless _ _ c.args.start c.steps.s (take c.steps.count c.steps.path) c.prove_known.ensures.linked.chains c.requires.start was.path
    (rw (← c.self.view_is) (omega arith))

pub steps-preserved : goal.steps-preserved
steps-preserved c =
    let was = c.steps.invariant in
    let inside = rw c.at-s.ensures.next at c.at-s.ensures.inside in
    let few = rw (← c.self.view_is) at was.few in
    let room = rw (← c.self.view_is) at c.requires.room in
    let long = was.long in
    let all = c.nchain-symbols.ensures in
    let within = c.if-count-symbols.false in
    rw (c.at-s.ensures.next, take_more_set c.steps.path c.steps.count c.steps.s (omega arith)) (record {
      path = path_push _ c.args.start c.steps.s _ was.path c.steps-test.true;
      inside = inside;
      few = rw (← c.self.view_is) (omega arith);
      long = length-set c.steps.path c.steps.count c.steps.s ∙ was.long;
    })
