use Rattle.std.proofs.Common.{ℕ, ◌<◌}
use Rattle.elf_object_edit.specs.Without.{IsDangling}
use Rattle.elf_object_edit.specs.declared.fault.Reference.{Reference}
use Rattle.elf_object_edit.proofs.references.Edit.first_dangling.Given as goal

abbrev pub invariant-loop-i : goal.invariant-loop-i
invariant-loop-i l = let e = l.self in
    (h : ℕ) (q : Reference) → h < l.i → IsDangling e.object.now e.sections.marks.items e.symbols.marks.items h q → ⊥
