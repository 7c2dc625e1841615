use Rattle.std.proofs.Common.{◌≡◌}
use Rattle.elf_table_symbols.specs.Sections.{sections_of}
use Rattle.elf_table_all.specs.Tables.{AreVerdicts}
use Rattle.elf_table_all.proofs.verdicts.all_verdicts.Given as goal

abbrev pub invariant-loop-i : goal.invariant-loop-i
invariant-loop-i l = record { hashes : l.hashes ≡ sections_of l.image; verdicts : AreVerdicts (sections_of l.image) l.i l.verdicts }
