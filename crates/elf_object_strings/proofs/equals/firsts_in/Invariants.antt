use Rattle.elf_object_strings.specs.Sorting.{indexes_in, names_by_ends}
use Rattle.elf_object_strings.proofs.EqualNames.{HaveFirsts}
use Rattle.elf_object_strings.proofs.equals.firsts_in.Given as goal

abbrev pub invariant-loop-position : goal.invariant-loop-position
invariant-loop-position l = HaveFirsts l.list (names_by_ends l.list l.sorted) (indexes_in l.sorted) l.firsts.items l.position
