use Rattle.std.proofs.Common.{◌≡◌, ◌<◌, ◌≤◌, [], length}
use Rattle.elf_object_strings.specs.Leaders.{AreBounds, AreLasts}
use Rattle.elf_object_strings.specs.Sorting.{names_by_ends}
use Rattle.elf_object_strings.proofs.leaders.lasts_of.Given as goal

abbrev pub invariant-loop-position : goal.invariant-loop-position
invariant-loop-position l = record {
  low : l.position ≤ length l.leaders;
  all : length l.lasts.items ≡ length l.read;
  lasts : AreLasts (names_by_ends l.read l.leaders) l.read l.lasts.items;
  none : l.position ≡ length l.leaders → l.bounds.items ≡ [];
  bounds : l.position < length l.leaders → AreBounds (names_by_ends l.read l.leaders) l.bounds.items l.position;
}

abbrev pub decreases-loop-position : goal.decreases-loop-position
decreases-loop-position l = l.position
