use Rattle.std.proofs.Common.{◌≤◌, length}
use Rattle.std.specs.Io.KnownBytes.{append_known}
use Rattle.elf_object_writer.proofs.Going.{IsGoingAt}
use Rattle.elf_object_writer.proofs.object_writing.write_placed.Given as goal

-- the header and the first contents are out, or wait to go out
abbrev pub invariant-loop-position : goal.invariant-loop-position
invariant-loop-position g l = record {
  going : IsGoingAt l.placed (g.W.Write.contents l.fn.writer) (append_known (g.W.Write.contents l.writer) l.waiting.items) l.out l.position;
  few : length l.waiting.items ≤ l.out;
}
