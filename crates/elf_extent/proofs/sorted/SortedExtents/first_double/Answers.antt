use Rattle.elf_extent.proofs.ExtentLists.{lowest_sorted, nonempty_sorted, ascending_extents, disjoint_where_none}
use Rattle.elf_extent.proofs.sorted.SortedExtents.first_double.Goals as goal

pub sweep-requires-clause-ascending : goal.sweep-requires-clause-ascending
sweep-requires-clause-ascending c =
    rw c.deref.ensures.value (ascending_extents c.self.inside.members.items c.self.invariant.ascending)

pub sweep-requires-clause-nonempty : goal.sweep-requires-clause-nonempty
sweep-requires-clause-nonempty c =
    rw c.deref.ensures.value (nonempty_sorted c.self.inside.extents.now _ c.self.invariant.held)

pub returns-clause-lowest : goal.returns-clause-lowest
returns-clause-lowest c =
    rw (← c.self.view_is)
    (lowest_sorted c.self.inside.extents.now _ _ c.self.invariant.held (rw c.deref.ensures.value at c.sweep.ensures.lowest))

pub returns-clause-disjoint : goal.returns-clause-disjoint
returns-clause-disjoint c = disjoint_where_none _ _ (returns-clause-lowest c)
