use Rattle.elf_table_symbols.specs.Symbols.{AreIndexTables}
use Rattle.elf_table_symbols.specs.Sections.{sections_seen}
use Rattle.elf_table_symbols.proofs.index_tables.index_tables_of.Given as goal

abbrev pub invariant-loop-j : goal.invariant-loop-j
invariant-loop-j l = AreIndexTables (sections_seen l.sections) l.i l.j l.tables
