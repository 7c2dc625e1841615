use Rattle.std.proofs.Common.{◌≡◌, ◌≤◌, filter, map, take}
use Rattle.elf_extent.specs.Extent.{holds_any, AreMembers}
use Rattle.elf_image_rules.specs.ValidatedRecords.{file_extents}
use Rattle.elf_c_parts.specs.Slots.{extent_of_part, member_of_part}
use Rattle.elf_c_parts.proofs.parts.put_members.Given as goal

abbrev pub invariant-loop-index : goal.invariant-loop-index
invariant-loop-index l = record {
  few : l.count ≤ l.index;
  members : AreMembers (file_extents l.extents) l.index (map member_of_part (take l.count l.room));
  held : map extent_of_part (take l.count l.room) ≡ filter holds_any (take l.index (file_extents l.extents));
}
