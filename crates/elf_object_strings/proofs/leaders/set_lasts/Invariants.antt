use Rattle.elf_object_strings.specs.Leaders.{AreLasts}
use Rattle.elf_object_strings.specs.Sorting.{names_by_ends}
use Rattle.elf_object_strings.proofs.leaders.set_lasts.Given as goal

abbrev pub invariant-loop-i : goal.invariant-loop-i
invariant-loop-i l = record {
  lasts : AreLasts (names_by_ends l.read l.leaders) l.read l.lasts;
}
