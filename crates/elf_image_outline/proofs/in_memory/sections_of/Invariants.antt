use Rattle.std.proofs.Common.{◌≡◌, map}
use Rattle.std.specs.List.{range_with_len}
use Rattle.elf_image_rules.specs.Tables.{header, sections}
use Rattle.elf_image_rules.specs.ValidatedRecords.{file_of}
use Rattle.elf_image_outline.proofs.in_memory.sections_of.Given as goal

abbrev pub invariant-loop-i : goal.invariant-loop-i
invariant-loop-i l = l.found.items ≡ map (sections (file_of l.records) (header (file_of l.records))) (range_with_len 0 l.i)
