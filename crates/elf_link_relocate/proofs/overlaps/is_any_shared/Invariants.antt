use Rattle.elf_link_relocate.proofs.Spots.{AreSearched}
use Rattle.elf_link_relocate.proofs.overlaps.is_any_shared.Given as goal

abbrev pub invariant-loop-i : goal.invariant-loop-i
invariant-loop-i l = AreSearched l.fields l.end l.spots l.i l.from
