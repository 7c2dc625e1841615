use Rattle.std.proofs.Common.{◌≡◌, map, take}
use Rattle.elf_link_relocate.specs.Passes.{field_extent}
use Rattle.elf_link_relocate.proofs.overlaps.is_shared.Given as goal

abbrev pub invariant-loop-spot : goal.invariant-loop-spot
invariant-loop-spot l = l.extents.items ≡ map (field_extent l.fields l.end) (take l.spot-index l.spots)
