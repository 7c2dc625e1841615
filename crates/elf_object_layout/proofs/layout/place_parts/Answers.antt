use Rattle.elf_object_layout.proofs.CanonicalLayout.{overflow_long}
use Rattle.elf_object_layout.proofs.layout.place_parts.Goals as goal

pub returns-in-Err-Overflow-clause-err : goal.returns-in-Err-Overflow-clause-err
returns-in-Err-Overflow-clause-err c = let fault = rw c.in-Err-Overflow.field-0-is at c.in-Err-Overflow.ensures.err in
    overflow_long _ _ fault
