use Rattle.std.proofs.Common.{rules}
use Rattle.std.proofs.lemmas.List.Sorted.{IsNonDecreasingBy-from_all_adjacent}
use Rattle.elf_extent.specs.declared.extent.Extent.{Extent}
use Rattle.tests_extent.proofs.extents.swept.Goals as goal

pub sweep-double-requires-clause-ascending : goal.sweep-double-requires-clause-ascending
sweep-double-requires-clause-ascending c =
    rw c.new-row.ensures.shown
    (IsNonDecreasingBy-from_all_adjacent (λ (e : Extent). e.start) c.args.extents.now (c.ascends.ensures (search rules)))
