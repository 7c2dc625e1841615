use Rattle.std.proofs.Common.{ap, sym, ◌∙◌, ◌+◌, ℕ}
use Rattle.elf_image_rules.proofs.Clean.{length-file_extents}
use Rattle.elf_image_rules.proofs.file_extents.FileExtents.len.Goals as goal

pub returns : goal.returns
returns c = ap (λ (k : ℕ). 3 + k) c.section_count.ensures.count ∙ sym (length-file_extents c.args.self.now)
