use Rattle.std.proofs.Common.{◌≡◌, length}
use Rattle.elf_table_symbols.specs.Sections.{sections_seen}
use Rattle.elf_table_lists.proofs.GroupMarks.{AreMarked}
use Rattle.elf_table_lists.proofs.group_marks.lowest_unfit_or_marked.Given as goal

abbrev pub invariant-loop-j : goal.invariant-loop-j
invariant-loop-j l = record {
  marked : AreMarked (sections_seen l.table.sections) l.table.index l.j l.marks;
  long : length l.marks ≡ length l.initial.marks;
}
