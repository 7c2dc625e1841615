use Rattle.elf_table_symbols.specs.Sections.{sections_of}
use Rattle.elf_table_symbols.specs.Symbols.{AreSymbolVerdicts}
use Rattle.elf_table_all.proofs.verdicts.symbol_verdicts.Given as goal

abbrev pub invariant-loop-i : goal.invariant-loop-i
invariant-loop-i l = AreSymbolVerdicts (sections_of l.image) l.i l.verdicts
