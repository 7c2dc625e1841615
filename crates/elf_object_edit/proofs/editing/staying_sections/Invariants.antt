use Rattle.std.proofs.Common.{◌≡◌, false, get_or, map}
use Rattle.std.specs.Prelude.{not}
use Rattle.std.specs.List.{range_with_len}
use Rattle.elf_object_edit.proofs.editing.staying_sections.Given as goal

abbrev pub invariant-loop-p : goal.invariant-loop-p
invariant-loop-p l = l.marks.items ≡ map (λ p. not (get_or l.left_out p false)) (range_with_len 0 l.p)
