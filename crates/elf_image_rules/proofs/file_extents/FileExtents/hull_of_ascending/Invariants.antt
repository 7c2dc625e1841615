use Rattle.std.proofs.Common.{◌+◌}
use Rattle.elf_image_rules.specs.ValidatedRecords.{file_extents}
use Rattle.elf_image_rules.proofs.Clean.{HasAscended}
use Rattle.elf_image_rules.proofs.file_extents.FileExtents.hull_of_ascending.Given as goal

abbrev pub invariant-loop-section : goal.invariant-loop-section
invariant-loop-section l = HasAscended (file_extents l.self) 3 (l.section + 3) l.first l.last
