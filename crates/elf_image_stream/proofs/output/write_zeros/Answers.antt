use Rattle.std.proofs.Common.{arith}
use Rattle.std.proofs.lemmas.List.{take-replicate}
use Rattle.elf_image_stream.proofs.Written.{zeros_err, zeros_ok}
use Rattle.elf_image_stream.proofs.output.write_zeros.Goals as goal

pub returns-in-Err : goal.returns-in-Err
returns-in-Err g c =
    rw c.after.ensures (zeros_err c.args.count c.loop-written.written c.min-size.result c.in-Err.fault.written _ _ _ _ (omega arith)
    (take-replicate c.min-size.result 4096 0 (omega arith)) c.loop-written.invariant.out c.in-Err.ensures)

pub loop-written-preserved : goal.loop-written-preserved
loop-written-preserved g c = record {
  within = omega arith;
  out = zeros_ok c.loop-written.written c.min-size.result _ _ _ _
      (take-replicate c.min-size.result 4096 0 (omega arith)) c.loop-written.invariant.out c.in-Ok.ensures;
}
