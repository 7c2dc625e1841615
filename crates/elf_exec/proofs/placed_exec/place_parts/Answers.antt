use Rattle.elf_exec.proofs.ExecText.{overflow_far}
use Rattle.elf_exec.proofs.placed_exec.place_parts.Goals as goal

pub returns-in-Err-Overflow-clause-err : goal.returns-in-Err-Overflow-clause-err
returns-in-Err-Overflow-clause-err c =
    (let fault = rw c.in-Err-Overflow.field-0-is at c.in-Err-Overflow.ensures.err in overflow_far _ _ _ fault)
