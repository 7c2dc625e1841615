use Rattle.std.proofs.Common.{ℕ, ◌<◌, get_or}
use Rattle.elf_object_type.specs.Object.{no_relocation}
use Rattle.elf_object_edit.specs.Without.{IsLeftOut}
use Rattle.elf_object_edit.proofs.references.Edit.first_symbol.Given as goal

abbrev pub invariant-loop-j : goal.invariant-loop-j
invariant-loop-j l = (k : ℕ) → k < l.j → IsLeftOut l.self.symbols.marks.items (get_or l.entries k no_relocation).symbol → ⊥
