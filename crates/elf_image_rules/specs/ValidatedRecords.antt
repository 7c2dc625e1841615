-- A file whose records were validated.
use Rattle.std.specs.Prelude.{ℕ, List}
use Rattle.elf_extent.specs.declared.extent.Extent.{Extent}
use Rattle.elf_image_rules.specs.Rules.{extents_of_file}
use Rattle.elf_image_rules.specs.declared.file_extents.FileExtents.{FileExtents}
use Rattle.elf_image_rules.specs.declared.validated_records.ValidatedRecords.{ValidatedRecords}

-- the bytes of the file
abbrev pub file_of : ValidatedRecords → List ℕ
file_of records = records.bytes.now

-- The extents that are read from a file.

-- the file's extents, by index
unfoldable pub file_extents : FileExtents → List Extent
file_extents f = extents_of_file (file_of f.records)
