use Rattle.elf_link_relocate.specs.Passes.{AreSpots}
use Rattle.elf_link_relocate.proofs.overlaps.spots_in_order.Given as goal

abbrev pub invariant-loop-position : goal.invariant-loop-position
invariant-loop-position l = AreSpots l.fields l.position l.spots.items
