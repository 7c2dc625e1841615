use Rattle.std.proofs.Common.{refl}
use Rattle.elf_image_rules.specs.ValidatedRecords.{file_extents}
use Rattle.elf_image_rules.proofs.file_extents.FileExtents.new.Goals as goal

pub returns : goal.returns
unfolding file_extents
returns c = refl
