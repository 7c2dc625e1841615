use Rattle.std.proofs.Common.{◌≡◌, map}
use Rattle.std.specs.List.{range_with_len}
use Rattle.elf_object_reader.specs.NameEnds.{symbol_end}
use Rattle.elf_table_symbols.specs.Sections.{sections_of}
use Rattle.elf_object_reader.proofs.name_ends.table_ends.Given as goal

abbrev pub invariant-loop-j : goal.invariant-loop-j
invariant-loop-j l = l.ends.items ≡ map (symbol_end (sections_of l.image) l.t) (range_with_len 1 l.j)
