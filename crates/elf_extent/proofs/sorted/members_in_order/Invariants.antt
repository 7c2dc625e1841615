use Rattle.std.proofs.Common.{◌≡◌, filter, map, take}
use Rattle.elf_extent.specs.Extent.{holds_any, AreMembers}
use Rattle.elf_extent.proofs.sorted.members_in_order.Given as goal

-- what was gathered are the members among the extents so far
abbrev pub invariant-loop-index : goal.invariant-loop-index
invariant-loop-index l = record {
  members : AreMembers l.extents l.index l.members.items;
  held : map (λ m. m.extent) l.members.items ≡ filter holds_any (take l.index l.extents);
}
