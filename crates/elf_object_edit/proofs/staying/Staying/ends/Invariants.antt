use Rattle.std.proofs.Common.{◌≡◌, get_or, map}
use Rattle.elf_object_type.proofs.Public.{passing}
use Rattle.elf_object_edit.specs.Without.{stays}
use Rattle.elf_object_edit.proofs.staying.Staying.ends.Given as goal

abbrev pub invariant-loop-i : goal.invariant-loop-i
invariant-loop-i l = l.moved.items ≡ map (λ k. get_or l.ends k 0) (passing (stays l.self.marks.items) l.i)
