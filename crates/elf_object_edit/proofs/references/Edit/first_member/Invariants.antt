use Rattle.std.proofs.Common.{ℕ, ◌<◌}
use Rattle.std.specs.List.{slice_get}
use Rattle.elf_object_edit.specs.Without.{IsLeftOut}
use Rattle.elf_object_edit.proofs.references.Edit.first_member.Given as goal

abbrev pub invariant-loop-j : goal.invariant-loop-j
invariant-loop-j l = (k : ℕ) → k < l.j → IsLeftOut l.self.sections.marks.items (slice_get l.members k) → ⊥
