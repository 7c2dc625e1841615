use Rattle.std.proofs.Common.{◌≤◌, ◌+◌, ◌*◌, arith, mul-le-mul_left}
use Rattle.std.proofs.Math.Nat.{mul-add}
use Rattle.elf_image_outline.proofs.RecordsOfSource.{fault_later}
use Rattle.elf_image_outline.proofs.records.read_records.Goals as goal

pub read_several-requires-clause-fits : goal.read_several-requires-clause-fits
read_several-requires-clause-fits g c =
    let size = g.T.Record.SIZE in
    let next = c.loop-next.next in
    let several = c.min-several.result in
    let sum = mul-add size next several in
    let le : size * (next + several) ≤ size * c.args.count = mul-le-mul_left size (omega arith) in
    let fits = c.requires.fits (omega arith) in
    rw c.SIZE-in-loop-next.ensures (omega arith)

pub returns-in-Err-clause-err : goal.returns-in-Err-clause-err
returns-in-Err-clause-err g c =
    let size = g.T.Record.SIZE in
    let next = c.loop-next.next in
    let several = c.min-several.result in
    let sum = mul-add size next several in
    let le : size * (next + several) ≤ size * c.args.count = mul-le-mul_left size (omega arith) in
    let before = c.loop-next.invariant in
    fault_later _ _ _ _ _ c.args.at (size * c.args.count) _ (size * several) c.in-Err.fault before.kept before.failures
    (omega arith) (rw c.SIZE-in-loop-next.ensures (omega arith)) c.in-Err.ensures.err
