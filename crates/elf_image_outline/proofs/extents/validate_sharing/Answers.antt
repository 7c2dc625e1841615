use Rattle.std.proofs.Common.{None, Some, refl, subst}
use Rattle.elf_extent.specs.Extent.{Doubly, IsLowest}
use Rattle.elf_image_outline.proofs.extents.validate_sharing.Goals as goal

pub returns-in-Some-clause-err : goal.returns-in-Some-clause-err
returns-in-Some-clause-err c =
    rw c.new.ensures (refl, subst (IsLowest (Doubly c.args.sorted.now)) c.in-Some.is c.first_double.ensures.lowest)

pub returns-in-None-clause-unshared : goal.returns-in-None-clause-unshared
returns-in-None-clause-unshared c = subst (IsLowest (Doubly c.args.sorted.now)) c.in-None.is c.first_double.ensures.lowest
