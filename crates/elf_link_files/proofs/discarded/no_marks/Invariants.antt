use Rattle.std.proofs.Common.{map}
use Rattle.elf_link_files.specs.Discarded.{AreUnmarked}
use Rattle.elf_link_files.proofs.discarded.no_marks.Given as goal

abbrev pub invariant-loop-file : goal.invariant-loop-file
invariant-loop-file l = AreUnmarked l.objects l.file (map (λ row. row.items) l.marks.items)
