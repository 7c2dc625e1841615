use Rattle.elf_extent.proofs.PlaceLemmas.{ArePlaced}
use Rattle.elf_extent.proofs.placement.place.Given as goal

-- the parts so far have their least places
abbrev pub invariant-loop-index : goal.invariant-loop-index
invariant-loop-index l = ArePlaced l.parts l.from l.index l.cursor l.places.items
