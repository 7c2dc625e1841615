use Rattle.std.proofs.Common.{◌+◌, ◌≤◌, length, subst, sym, ℕ}
use Rattle.elf_image_outline.proofs.PartsOut.{read_failed}
use Rattle.elf_image_outline.proofs.copying.copy_block.Goals as goal

pub returns-in_err-read_exactly-clause-failures : goal.returns-in_err-read_exactly-clause-failures
returns-in_err-read_exactly-clause-failures g c =
    let failed = c.in_err-read_exactly.ensures in
    read_failed _ _ _ c.args.at _ c.in_err-read_exactly.field-0.0.at _
    (λ b known. subst (λ (n : ℕ). c.args.at + n ≤ length b) (sym failed.same) (c.requires.within b known)) failed.reads
    c.from_residual.ensures.1
