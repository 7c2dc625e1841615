use Rattle.std.proofs.Common.{◌-◌, ◌≤◌}
use Rattle.std.specs.Prelude.{replicate}
use Rattle.std.specs.Io.KnownBytes.{Appends}
use Rattle.elf_image_stream.proofs.output.write_zeros.Given as goal

-- exactly the first zeros are out
abbrev pub invariant-loop-written : goal.invariant-loop-written
invariant-loop-written g l = record {
  within : l.written ≤ l.count;
  out : Appends (g.W.Write.contents l.initial.writer) (g.W.Write.contents l.writer) (replicate l.written 0);
}

abbrev pub decreases-loop-written : goal.decreases-loop-written
decreases-loop-written g l = l.count - l.written
