use Rattle.elf_table_symbols.specs.Sections.{sections_seen}
use Rattle.elf_table_lists.proofs.EntryLists.{AreRight}
use Rattle.elf_table_lists.proofs.group.lowest_unfit_or_repeated.Given as goal

abbrev pub invariant-loop-j : goal.invariant-loop-j
invariant-loop-j l = AreRight (sections_seen l.table.sections) l.table.index l.j l.seen
