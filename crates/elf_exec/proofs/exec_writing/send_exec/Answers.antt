use Rattle.std.proofs.Common.{◌++◌, arith}
use Rattle.std.proofs.lemmas.Result.{err_from_is_err_and}
use Rattle.elf_image_stream.proofs.Public.{sends_after, stopped_longer}
use Rattle.elf_exec.specs.ExecWriting.{loads_text, placed_header, placed_table}
use Rattle.elf_exec.proofs.ExecText.{length-header}
use Rattle.elf_exec.proofs.exec_writing.send_exec.Goals as goal

pub returns : goal.returns
returns g c =
    let p = c.args.placed.now in
    let long = length-header p.linked.objects p.linked.map in
    sends_after _ _ _ _ _ (placed_header p) (placed_table p ++ loads_text p) c.send_after_header.result
    (omega arith, c.in_ok-write_header.ensures) c.send_after_header.ensures

pub returns-in_err-write_header : goal.returns-in_err-write_header
returns-in_err-write_header g c =
    let p = c.args.placed.now in
    let fault = err_from_is_err_and c.from_residual.result c.from_residual.ensures.1 in
    let (below, went) = c.in_err-write_header.ensures in
    rw (fault.1, fault.2) (stopped_longer _ _ _ _ (placed_header p) (placed_table p ++ loads_text p) (_, omega arith, below, went))
