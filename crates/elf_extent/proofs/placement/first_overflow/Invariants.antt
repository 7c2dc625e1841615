use Rattle.std.specs.Prelude.{ℕ, List}
use Rattle.elf_extent.proofs.PlaceLemmas.{ArePlaced}
use Rattle.elf_extent.proofs.placement.first_overflow.Given as goal

-- the parts so far have least places
abbrev pub invariant-loop-index : goal.invariant-loop-index
invariant-loop-index l = (places : List ℕ) × ArePlaced l.parts l.from l.index l.cursor places
