use Rattle.std.proofs.Common.{◌≡◌, take}
use Rattle.elf_image_rules.specs.ValidatedRecords.{file_extents}
use Rattle.elf_image_rules.proofs.file_extents.FileExtents.all.Given as goal

abbrev pub invariant-loop-index : goal.invariant-loop-index
invariant-loop-index l = l.extents.items ≡ take l.index (file_extents l.self)
