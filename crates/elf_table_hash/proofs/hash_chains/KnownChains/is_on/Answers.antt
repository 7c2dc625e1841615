-- The result is whether `s` is on the known chain of `start`: not at depth 0, and always if it was first met from there. Otherwise the walk
-- leaps down; if `s` is on the chain, it is on that of `here` (`on_after`). At its depth, `s` is on the chain exactly if it is `here`
-- (`on_same`).
use Rattle.std.proofs.Common.{◌≢◌, get_or, ap, eq-eqb, subst, arith, ◌<◌, inr, refl, sym, ◌∙◌}
use Rattle.std.proofs.lemmas.Bool.{eqb-true, false≢true}
use Rattle.elf_table_hash.specs.ChainDepths.{Leads}
use Rattle.elf_table_hash.specs.HashTable.{Ends, chain}
use Rattle.elf_table_hash.proofs.Chains.{on_from_path, known_along, known_ends, leads_join, on_after, on_same, on_some, zero_depth}
use Rattle.elf_table_hash.proofs.hash_chains.KnownChains.is_on.Goals as goal

pub returns-then-symbol-eq0 : goal.returns-then-symbol-eq0
returns-then-symbol-eq0 c = (
  (λ is. absurd (false≢true is)),
  λ on. (let some = on_some _ _ _ c.args.start c.args.s c.prove_known.ensures.depths c.requires.known on in
      let none = (sym c.at-symbol.ensures.depth ∙ c.if-symbol-eq0.true) in
      absurd (omega arith)),
)

pub returns-then-symbol-start : goal.returns-then-symbol-start
returns-then-symbol-start c =
    let deep = rw c.at-symbol.ensures.depth at c.if-symbol-eq0.false in
    let above : 0 < get_or c.args.self.now.depth c.args.s 0 = omega arith in
    let none = zero_depth _ _ _ c.prove_known.ensures.depths in
    let some : c.args.s ≢ 0 = λ is. (let depth = ap (λ k. get_or c.args.self.now.depth k 0) is in omega arith) in
    let leads = subst (λ k. Leads (chain c.args.self.now.words) k c.args.s) c.if-symbol-start.true
    (c.at-symbol.ensures.start (rw c.at-symbol.ensures.depth above)) in (
      (λ _. on_from_path _ c.args.start c.args.s leads.0 leads.1 some (known_ends _ _ _ c.args.s c.prove_known.ensures.depths (inr above))),
      λ _. refl,
    )

pub steps-preserved : goal.steps-preserved
steps-preserved c =
    let was = c.steps.invariant in
    let above = rw c.at-symbol.ensures.depth at c.leap-here.ensures.above in
    let leads = leads_join _ c.args.start c.steps.here _ was.leads c.leap-here.ensures.leads in
    let step = c.leap-here.ensures.leads in
    record {
      leads = leads;
      on = λ on. on_after _ _ _ c.steps.here c.leap-here.result c.args.s c.prove_known.ensures.depths was.known c.leap-here.ensures.leads
          above (was.on on);
      known = known_along _ _ _ c.steps.here c.leap-here.result step.0 c.prove_known.ensures.depths was.known step.1;
      inside = c.leap-here.ensures.inside;
    }

pub returns : goal.returns
returns c =
    let was = c.steps.invariant in
    let deep = rw c.at-symbol.ensures.depth at c.if-symbol-eq0.false in
    let none = zero_depth _ _ _ c.prove_known.ensures.depths in
    let here = c.at.ensures.depth in
    let read = c.at-symbol.ensures.depth in
    let some : c.args.s ≢ 0 = λ is. (let depth = ap (λ k. get_or c.args.self.now.depth k 0) is in omega arith) in (
      (λ test. (
          let same = eqb-true c.steps.here c.args.s test in
          let leads = subst (Leads (chain c.args.self.now.words) c.args.start) same was.leads in
          on_from_path _ c.args.start c.args.s leads.0 leads.1 some
          (subst (Ends (chain c.args.self.now.words)) same (known_ends _ _ _ c.steps.here c.prove_known.ensures.depths was.known)))),
      λ on. eq-eqb c.steps.here c.args.s
          (on_same _ _ _ c.steps.here c.args.s c.prove_known.ensures.depths was.known (was.on on) (omega arith)),
    )
