use Rattle.std.proofs.Common.{◌≡◌, map}
use Rattle.std.specs.List.{range_with_len}
use Rattle.elf_image_rules.specs.Tables.{header, segments}
use Rattle.elf_image_rules.specs.ValidatedRecords.{file_of}
use Rattle.elf_image_outline.proofs.in_memory.segments_of.Given as goal

abbrev pub invariant-loop-j : goal.invariant-loop-j
invariant-loop-j l = l.found.items ≡ map (segments (file_of l.records) (header (file_of l.records))) (range_with_len 0 l.j)
