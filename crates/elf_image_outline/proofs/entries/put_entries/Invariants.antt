use Rattle.std.proofs.Common.{◌≡◌, ◌*◌, drop, length, take}
use Rattle.std.specs.List.{flat_map}
use Rattle.elf_image_outline.proofs.entries.put_entries.Given as goal

-- the first entries are in the front
abbrev pub invariant-loop-i : goal.invariant-loop-i
invariant-loop-i g l = record {
  long : length l.bytes ≡ g.E.Entry.Record.SIZE * l.several;
  front : take (g.E.Entry.Record.SIZE * l.i) l.bytes ≡
      flat_map (g.E.Entry.Record.bytes l.order) (take l.i (take l.several (drop l.from (g.E.Entries.entries l.entries))));
}
