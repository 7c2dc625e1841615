use Rattle.std.proofs.Common.{map}
use Rattle.elf_link_files.specs.Discarded.{AreMarksOf}
use Rattle.elf_link_files.proofs.discarded.mark_repeated.Given as goal

abbrev pub invariant-loop-k : goal.invariant-loop-k
invariant-loop-k l = AreMarksOf l.objects l.groups l.k (map (λ row. row.items) l.marks.items)
