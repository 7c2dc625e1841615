use Rattle.elf_image_outline.proofs.Edited.{len_short}
use Rattle.elf_image_outline.proofs.outline.Outline.len.Goals as goal

pub returns-clause-short : goal.returns-clause-short
returns-clause-short c = len_short _ c.self.invariant
