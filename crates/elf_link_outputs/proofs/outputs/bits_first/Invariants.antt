use Rattle.std.proofs.Common.{map}
use Rattle.elf_link_outputs.specs.Outputs.{AreSplit}
use Rattle.elf_link_outputs.proofs.outputs.bits_first.Given as goal

abbrev pub invariant-loop-members : goal.invariant-loop-members
invariant-loop-members g l =
    (goal.iterator-loop-members g).can_next l.members-iterator × (goal.iterator-loop-members g).is_finite l.members-iterator ×
    AreSplit l.objects (map (λ ms. ms.items) l.members-iterator) (map (λ ms. ms.items) l.outputs.items)
    (map (λ ms. ms.items) l.later.items)
