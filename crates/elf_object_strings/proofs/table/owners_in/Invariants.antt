use Rattle.elf_object_strings.specs.Sorting.{AreRuns, HaveOwners, indexes_in, names_by_ends}
use Rattle.elf_object_strings.proofs.table.owners_in.Given as goal

abbrev pub invariant-loop-position : goal.invariant-loop-position
invariant-loop-position l = record {
  runs : AreRuns (names_by_ends l.list l.sorted) l.starts.items l.position;
  owned : HaveOwners l.list (names_by_ends l.list l.sorted) (indexes_in l.sorted) l.owners.items l.position;
}
