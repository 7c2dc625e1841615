use Rattle.elf_image_rules.specs.ValidatedRecords.{file_of}
use Rattle.elf_image_rules.proofs.ImageRules.{fault_of_search}
use Rattle.elf_image_rules.proofs.validated_records.ValidatedRecords.shared_byte_by_sorting.Goals as goal

pub returns : goal.returns
returns c =
    let r = c.args.self.now in
    fault_of_search (file_of r) _ _ r.kept c.new.ensures c.lowest_shared_byte_by_sorting.ensures
