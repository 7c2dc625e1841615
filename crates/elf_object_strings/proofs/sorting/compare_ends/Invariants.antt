use Rattle.std.proofs.Common.{◌≡◌, length, reverse}
use Rattle.std.specs.Cmp.Lexicographic.{slice_cmp}
use Rattle.std.specs.Ordering.{nat_cmp}
use Rattle.elf_object_strings.proofs.sorting.compare_ends.Given as goal

abbrev pub invariant-loop-less_left : goal.invariant-loop-less_left
invariant-loop-less_left l =
    slice_cmp nat_cmp (reverse l.left) (reverse l.right) ≡ slice_cmp nat_cmp (reverse l.a) (reverse l.b)

abbrev pub decreases-loop-less_left : goal.decreases-loop-less_left
decreases-loop-less_left l = length l.left
