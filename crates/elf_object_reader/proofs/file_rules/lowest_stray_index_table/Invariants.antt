use Rattle.std.proofs.Common.{ℕ, ◌<◌}
use Rattle.elf_object_reader.specs.FileRules.{IsStrayIndexTable}
use Rattle.elf_table_symbols.specs.Sections.{sections_of}
use Rattle.elf_object_reader.proofs.file_rules.lowest_stray_index_table.Given as goal

abbrev pub invariant-loop-i : goal.invariant-loop-i
invariant-loop-i l = (k : ℕ) → k < l.i → IsStrayIndexTable (sections_of l.image) k → ⊥
