use Rattle.std.proofs.Common.{◌≡◌, length, take}
use Rattle.elf_image_sources.specs.Joined.{AreListEnds, bytes_of_lists}
use Rattle.elf_image_sources.proofs.joined.Joined.new.Given as goal

-- the lists so far, and where they end
abbrev pub invariant-loop-list : goal.invariant-loop-list
invariant-loop-list l = record {
  ends : AreListEnds (take l.list-index l.lists) l.ends.items;
  end : l.end ≡ length (bytes_of_lists (take l.list-index l.lists));
}
