use Rattle.std.proofs.Common.{◌≡◌, ◌≤◌, filter, map, take}
use Rattle.elf_extent.specs.Extent.{holds_any}
use Rattle.elf_image_rules.specs.ValidatedRecords.{file_extents}
use Rattle.elf_c_parts.specs.Slots.{extent_in}
use Rattle.elf_c_parts.proofs.room.put_extents.Given as goal

abbrev pub invariant-loop-index : goal.invariant-loop-index
invariant-loop-index l = record {
  few : l.count ≤ l.index;
  held : map extent_in (take l.count l.room) ≡ filter holds_any (take l.index (file_extents l.extents));
}
