use Rattle.elf_extent.specs.Extent.{IsLowest}
use Rattle.elf_image_rules.specs.ValidatedRecords.{file_extents}
use Rattle.elf_image_rules.specs.Rules.{SharedBelow}
use Rattle.elf_image_rules.proofs.file_extents.FileExtents.lowest_shared.Given as goal

abbrev pub invariant-loop-other : goal.invariant-loop-other
invariant-loop-other l = IsLowest (SharedBelow (file_extents l.self) l.other l.index) l.lowest
