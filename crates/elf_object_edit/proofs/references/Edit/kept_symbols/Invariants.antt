use Rattle.std.proofs.Common.{◌≡◌, map}
use Rattle.elf_object_type.proofs.Public.{passing}
use Rattle.elf_object_edit.specs.Without.{moved_symbol, stays}
use Rattle.elf_object_type.specs.Object.{symbol_at}
use Rattle.elf_object_type.specs.ObjectView.{symbol_value}
use Rattle.elf_object_edit.proofs.references.Edit.kept_symbols.Given as goal

abbrev pub invariant-loop-i : goal.invariant-loop-i
invariant-loop-i l =
    map symbol_value l.read.items ≡
    map (λ k. moved_symbol l.self.sections.marks.items (symbol_at l.self.object.now k)) (passing (stays l.self.symbols.marks.items) l.i)
