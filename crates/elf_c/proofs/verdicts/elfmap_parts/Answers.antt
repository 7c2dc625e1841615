use Rattle.elf_c.proofs.ReadFiles.{fault_numbered}
use Rattle.elf_c.proofs.verdicts.elfmap_parts.Goals as goal

pub returns-in-Err-Rule-clause-short : goal.returns-in-Err-Rule-clause-short
returns-in-Err-Rule-clause-short c zero =
    absurd (fault_numbered c.args.bytes.now c.in-Err-Rule.rule c.in-Err-Rule.at
    (rw c.in-Err-Rule.field-0-is at c.in-Err-Rule.ensures.fault).0 zero)
