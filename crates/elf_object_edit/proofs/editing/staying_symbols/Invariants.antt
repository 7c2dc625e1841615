use Rattle.std.proofs.Common.{◌≡◌, map, take}
use Rattle.elf_object_edit.specs.Without.{has_staying_place}
use Rattle.elf_object_edit.proofs.editing.staying_symbols.Given as goal

abbrev pub invariant-loop-k : goal.invariant-loop-k
invariant-loop-k l = l.marks.items ≡ map (λ s. has_staying_place l.sections s.place) (take l.k l.object.symbols)
