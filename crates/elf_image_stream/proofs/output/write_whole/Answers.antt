use Rattle.std.proofs.Common.{rules}
use Rattle.elf_image_stream.proofs.Sources.{Appends-more}
use Rattle.elf_image_stream.proofs.output.write_whole.Goals as goal

pub loop-written-preserved : goal.loop-written-preserved
loop-written-preserved g c = record {
  within = search rules;
  out = Appends-more _ _ _ _ c.loop-written.written c.in-Ok.taken c.loop-written.invariant.out c.in-Ok.ensures.bytes;
}
