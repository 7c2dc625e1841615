use Rattle.elf_table_symbols.specs.Sections.{sections_of}
use Rattle.elf_table_all.specs.Tables.{AreAllIndexTables}
use Rattle.elf_table_all.proofs.verdicts.AllIndexTables.new.Given as goal

abbrev pub invariant-loop-j : goal.invariant-loop-j
invariant-loop-j l = AreAllIndexTables (sections_of l.image) l.j l.all
