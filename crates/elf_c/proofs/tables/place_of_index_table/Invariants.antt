use Rattle.std.proofs.Common.{◌<◌, ℕ}
use Rattle.elf_table_symbols.specs.Sections.{sections_in}
use Rattle.elf_table_symbols.specs.Symbols.{IsIndexTable}
use Rattle.elf_c.specs.Files.{IsFileOf}
use Rattle.elf_c.proofs.tables.place_of_index_table.Given as goal

abbrev pub invariant-loop-j : goal.invariant-loop-j
invariant-loop-j l = IsFileOf l.file l.bytes → (k : ℕ) → k < l.j → IsIndexTable (sections_in l.bytes) l.index k → ⊥
