use Rattle.std.proofs.Common.{◌∙◌}
use Rattle.std.proofs.lemmas.Result.{err_from_is_err_and}
use Rattle.elf_tool_program.proofs.Sources.{one_source, said_in_part, said_whole}
use Rattle.elf_tool_program.proofs.scan_check.check_source.Goals as goal

pub returns-in_err-write_whole-clause-said : goal.returns-in_err-write_whole-clause-said
returns-in_err-write_whole-clause-said g c =
    let failed = err_from_is_err_and c.from_residual-in_err-write_whole.result c.from_residual-in_err-write_whole.ensures.1 in
    rw (failed.1, failed.2)
    (said_in_part _ _ _ c.in_ok-validated.validated c.as_bytes.result.now
    (c.as_bytes.ensures.value ∙ c.in_ok-line.ensures) c.in_ok-validated.ensures.known
    _ c.in_err-write_whole.ensures)

pub returns-clause-said : goal.returns-clause-said
returns-clause-said g c =
    said_whole _ _ _ c.in_ok-validated.validated c.as_bytes.result.now
    (c.as_bytes.ensures.value ∙ c.in_ok-line.ensures) c.in_ok-validated.ensures.known
    _ c.verdict_on_scan.ensures c.in_ok-write_whole.ensures

pub returns-in_err-validated-clause-only : goal.returns-in_err-validated-clause-only
returns-in_err-validated-clause-only g c = one_source

pub returns-in_err-line-clause-only : goal.returns-in_err-line-clause-only
returns-in_err-line-clause-only g c = one_source

pub returns-in_err-write_whole-clause-only : goal.returns-in_err-write_whole-clause-only
returns-in_err-write_whole-clause-only g c = one_source

pub returns-clause-only : goal.returns-clause-only
returns-clause-only g c = one_source
