use Rattle.std.proofs.Common.{List, subst}
use Rattle.elf_extent.specs.declared.extent.Extent.{Extent}
use Rattle.elf_extent.specs.Extent.{Doubly, IsLowest}
use Rattle.elf_image_rules.specs.ValidatedRecords.{file_of}
use Rattle.elf_image_rules.proofs.ImageRules.{fault_of_extents}
use Rattle.elf_image_rules.proofs.validated_records.ValidatedRecords.shared_byte.Goals as goal

pub returns : goal.returns
returns c =
    let r = c.args.self.now in
    fault_of_extents (file_of r) _ r.kept
    (subst (λ (es : List Extent). IsLowest (Doubly es) c.lowest_shared_byte.result) c.new.ensures c.lowest_shared_byte.ensures)
