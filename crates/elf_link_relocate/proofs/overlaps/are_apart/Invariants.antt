use Rattle.std.proofs.Common.{ℕ, ◌+◌, ◌<◌}
use Rattle.elf_link_relocate.specs.Passes.{StandsAfter}
use Rattle.elf_link_relocate.proofs.Neighbours.{field_of}
use Rattle.elf_link_relocate.proofs.overlaps.are_apart.Given as goal

abbrev pub invariant-loop-i : goal.invariant-loop-i
invariant-loop-i l = (k : ℕ) → k + 1 < l.i → StandsAfter (field_of l.fields l.spots k) (field_of l.fields l.spots (k + 1))
