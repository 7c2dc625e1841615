use Rattle.std.proofs.Common.{arith, vec_len}
use Rattle.std.proofs.lemmas.Result.{err_from_is_err_and}
use Rattle.elf_tool_check.specs.Check.{CheckSays}
use Rattle.elf_tool_check.specs.declared.calls.ToolFault.TheVariants.{OutOfMemory}
use Rattle.elf_tool_check.proofs.EngineCalls.{kept_early, given_up}
use Rattle.elf_tool_check.proofs.engine.check.Goals as goal

pub returns-in_err-line-clause-said : goal.returns-in_err-line-clause-said
returns-in_err-line-clause-said g c =
    let q = err_from_is_err_and c.from_residual-in_err-line.result c.from_residual-in_err-line.ensures.1 in
    rw (q.1, q.2)
    (kept_early (given_up CheckSays _ _ _ c.as_slice-bytes.result.now c.read_input.new.buf.items (vec_len c.read_input.new.buf)
    c.as_slice-bytes.ensures.value
    (omega (arith, c.as_slice-bytes.ensures.len)) c.in_ok-read_input.ensures.taken c.in_ok-read_input.ensures.limit
    OutOfMemory tt))
