use Rattle.std.proofs.Common.{◌-◌, ◌≤◌, length, take}
use Rattle.std.specs.List.{flat_map}
use Rattle.std.specs.Io.KnownBytes.{Appends}
use Rattle.elf_image_outline.proofs.entries.write_entries.Given as goal

-- exactly the first entries are out
abbrev pub invariant-loop-next : goal.invariant-loop-next
invariant-loop-next g l = record {
  within : l.next ≤ length (g.E.Entries.entries l.entries);
  out : Appends (g.W.Write.contents l.initial.writer) (g.W.Write.contents l.writer)
      (flat_map (g.E.Entry.Record.bytes l.order) (take l.next (g.E.Entries.entries l.entries)));
}

abbrev pub decreases-loop-next : goal.decreases-loop-next
decreases-loop-next g l = length (g.E.Entries.entries l.entries) - l.next
