use Rattle.std.proofs.Common.{ℕ, List, length, subst, sym, ap₂, ◌<◌, ◌∙◌}
use Rattle.std.specs.Ordering.{nat_cmp, ordering_then}
use Rattle.elf_object_strings.specs.Leaders.{AreLed}
use Rattle.elf_object_strings.specs.declared.name_list.LeaderRange.{LeaderRange}
use Rattle.elf_object_strings.proofs.name_list.NameList.order_by_leaders.Goals as goal

pub returns-then-other-gt0 : goal.returns-then-other-gt0
returns-then-other-gt0 c =
    let led : AreLed c.args.self.now c.self.inside.ranges.now =
    subst (λ (names : List (List ℕ)). AreLed names c.self.inside.ranges.now) c.self.view_is c.self.invariant in
    let ranges =
    c.cmp-lasts.ensures ∙ ap₂ (λ (a b : LeaderRange). nat_cmp a.last b.last) c.range_at-other.ensures c.range_at-range.ensures in
    let lengths = c.cmp.ensures ∙ ap₂ (λ (a b : List ℕ). nat_cmp (length a) (length b)) c.name-left.ensures c.name-right.ensures in
    c.then.ensures ∙ ap₂ ordering_then ranges lengths
    ∙ sym (led.order c.args.a c.args.b (subst (λ (range : LeaderRange). 0 < range.last) c.range_at-range.ensures c.if-range-gt0.true)
    (subst (λ (range : LeaderRange). 0 < range.last) c.range_at-other.ensures c.if-other-gt0.true))
