use Rattle.std.proofs.Common.{◌≤◌, length, subst, sym, ℕ, List}
use Rattle.elf_image_sources.specs.Joined.{AreListEnds, IsCountUpTo}
use Rattle.elf_image_sources.proofs.Lists.{all_before, back_found, ends_ascend, rest_found}
use Rattle.elf_image_sources.proofs.joined.Joined.list_from.Goals as goal

pub count_up_to-index-requires : goal.count_up_to-index-requires
count_up_to-index-requires c = record {
  ascend = ends_ascend c.self.inside.lists.now _
      (subst (λ (ends : List ℕ). AreListEnds c.self.inside.lists.now ends) (sym c.deref.ensures.value) c.self.invariant);
}

pub returns-then-index-self-clause-none : goal.returns-then-index-self-clause-none
returns-then-index-self-clause-none c =
    let are = subst (λ (ends : List ℕ). AreListEnds c.self.inside.lists.now ends) (sym c.deref.ensures.value) c.self.invariant in
    subst (λ (bytes : List ℕ). length bytes ≤ c.args.at) c.self.view_is
    (all_before _ _ c.args.at _ are c.count_up_to-index.ensures.count c.if-index-self.true c.count_up_to-index.ensures.bound)

pub overflow_sub-result : goal.overflow_sub-result
overflow_sub-result c =
    let found = subst (λ (ends : List ℕ). IsCountUpTo c.args.at ends c.count_up_to-index.result)
    c.deref.ensures.value c.count_up_to-index.ensures.count in
    back_found _ _ c.args.at _ c.self.invariant found _ c.if-index-self.false _ c.index.ensures

pub returns-clause-from : goal.returns-clause-from
returns-clause-from c =
    let found = subst (λ (ends : List ℕ). IsCountUpTo c.args.at ends c.count_up_to-index.result)
    c.deref.ensures.value c.count_up_to-index.ensures.count in
    rest_found _ _ c.args.at _ c.self.invariant found _ c.if-index-self.false _ c.index.ensures _ c.self.view_is
