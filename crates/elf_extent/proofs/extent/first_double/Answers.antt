use Rattle.std.proofs.Common.{rules}
use Rattle.std.proofs.lemmas.List.Sorted.{IsNonDecreasingBy-from_sort_by_key}
use Rattle.elf_extent.specs.declared.extent.Extent.{Extent}
use Rattle.elf_extent.proofs.ExtentLists.{lowest_sorted, nonempty_sorted, disjoint_where_none}
use Rattle.elf_extent.proofs.extent.first_double.Goals as goal

pub sweep-requires-clause-ascending : goal.sweep-requires-clause-ascending
sweep-requires-clause-ascending c =
    rw c.new.ensures.shown (rw c.deref.ensures.value
    (IsNonDecreasingBy-from_sort_by_key (λ (e : Extent). e.start) _
    c.sort_unstable_by_key.ensures.sorted (λ a r q k. search rules)))

pub sweep-requires-clause-nonempty : goal.sweep-requires-clause-nonempty
sweep-requires-clause-nonempty c =
    rw c.new.ensures.shown (rw c.deref.ensures.value
    (nonempty_sorted c.args.extents.now _
    (rw c.in_ok-held.ensures at c.sort_unstable_by_key.ensures.permutation)))

pub returns-clause-lowest : goal.returns-clause-lowest
returns-clause-lowest c =
    lowest_sorted c.args.extents.now _ _
    (rw c.in_ok-held.ensures at c.sort_unstable_by_key.ensures.permutation)
    (rw c.deref.ensures.value at (rw c.new.ensures.shown at c.sweep.ensures.lowest))

pub returns-clause-disjoint : goal.returns-clause-disjoint
returns-clause-disjoint c = disjoint_where_none c.args.extents.now _ (returns-clause-lowest c)
