use Rattle.std.specs.List.{All}
use Rattle.elf_object_strings.specs.Sorting.{HasEnd}
use Rattle.elf_object_strings.proofs.leaders.leaders_of.Given as goal

abbrev pub invariant-loop-i : goal.invariant-loop-i
invariant-loop-i l = All (HasEnd l.read) l.leaders.items
