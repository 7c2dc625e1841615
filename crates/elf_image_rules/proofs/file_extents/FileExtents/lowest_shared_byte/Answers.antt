use Rattle.std.proofs.Common.{ℕ, subst}
use Rattle.elf_extent.specs.Extent.{IsLowest}
use Rattle.elf_image_rules.specs.ValidatedRecords.{file_extents}
use Rattle.elf_image_rules.specs.Rules.{DoublyBelow}
use Rattle.elf_image_rules.proofs.Clean.{doubly_all}
use Rattle.elf_image_rules.proofs.file_extents.FileExtents.lowest_shared_byte.Goals as goal

pub returns-in-Err : goal.returns-in-Err
returns-in-Err c =
    let es = file_extents c.args.self.now in
    doubly_all es c.lowest_double.result
    (subst (λ (n : ℕ). IsLowest (DoublyBelow es n n) c.lowest_double.result) c.len.ensures c.lowest_double.ensures)
