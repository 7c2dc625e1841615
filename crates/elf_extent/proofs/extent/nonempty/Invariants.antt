use Rattle.std.proofs.Common.{◌≡◌, filter, take}
use Rattle.elf_extent.specs.Extent.{holds_any}
use Rattle.elf_extent.proofs.extent.nonempty.Given as goal

-- what was gathered are those of the extents so far that hold a byte
abbrev pub invariant-loop-extent : goal.invariant-loop-extent
invariant-loop-extent l = l.held.items ≡ filter holds_any (take l.extent-index l.extents)
