use Rattle.elf_c.proofs.ReadFiles.{fault_numbered}
use Rattle.elf_c.proofs.verdicts.elfmap_verdict_in.Goals as goal

pub returns-in-Ok-Some-clause-short : goal.returns-in-Ok-Some-clause-short
returns-in-Ok-Some-clause-short c zero =
    absurd (fault_numbered c.args.bytes.now c.in-Ok-Some.rule c.in-Ok-Some.at
    (rw c.in-Ok-Some.field-0-is at c.in-Ok-Some.ensures.fault) zero)
