use Rattle.elf_extent.specs.Extent.{IsLowest}
use Rattle.elf_image_rules.specs.ValidatedRecords.{file_extents}
use Rattle.elf_image_rules.specs.Rules.{DoublyBelow}
use Rattle.elf_image_rules.proofs.file_extents.FileExtents.lowest_double.Given as goal

abbrev pub invariant-loop-index : goal.invariant-loop-index
invariant-loop-index l = IsLowest (DoublyBelow (file_extents l.self) l.end l.index) l.lowest
