use Rattle.std.proofs.Common.{◌≡◌, ◌<◌, ◌≤◌, ℕ, List, [], get_or}
use Rattle.elf_object_strings.specs.StringTable.{IsSuffix}
use Rattle.elf_object_strings.specs.Sorting.{HaveOwners, IsLeastOwner, AreNumbered, indexes_in, names_by_ends}
use Rattle.elf_object_strings.proofs.table.run_of.Given as goal

abbrev pub invariant-loop-start : goal.invariant-loop-start
invariant-loop-start l = record {
  low : l.start ≤ l.position;
  ends : (r : ℕ) → l.start ≤ r → r ≤ l.position →
      IsSuffix (get_or (names_by_ends l.list l.sorted) l.position []) (get_or (names_by_ends l.list l.sorted) r []);
  -- none is met yet, or the least owner of those that are
  own : l.start ≡ l.position → l.owner ≡ get_or (indexes_in l.sorted) l.position 0;
  met : (names : List (List ℕ)) → AreNumbered names (names_by_ends l.list l.sorted) (indexes_in l.sorted) →
      HaveOwners names (names_by_ends l.list l.sorted) (indexes_in l.sorted) l.owners l.position → l.start < l.position →
      IsLeastOwner names (names_by_ends l.list l.sorted) l.position l.start l.owner;
}

abbrev pub decreases-loop-start : goal.decreases-loop-start
decreases-loop-start l = l.start
