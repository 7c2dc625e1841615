use Rattle.std.proofs.Common.{length}
use Rattle.elf_object_strings.specs.Sorting.{AreWithoutEqualEnds}
use Rattle.elf_object_strings.proofs.sorting.common_end.Given as goal

abbrev pub invariant-loop-less_left : goal.invariant-loop-less_left
invariant-loop-less_left l = AreWithoutEqualEnds l.a l.b l.left l.right

abbrev pub decreases-loop-less_left : goal.decreases-loop-less_left
decreases-loop-less_left l = length l.left
