use Rattle.elf_object_strings.proofs.CommonEnd.{HaveEqualEnds}
use Rattle.elf_object_strings.proofs.sorting.equal_bytes.Given as goal

abbrev pub invariant-loop-count : goal.invariant-loop-count
invariant-loop-count l = HaveEqualEnds l.a l.b l.count
