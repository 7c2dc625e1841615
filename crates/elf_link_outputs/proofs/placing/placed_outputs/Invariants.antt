use Rattle.std.proofs.Common.{◌≡◌, map}
use Rattle.elf_link_outputs.specs.Placed.{ArePlacedOutputs, start_of, output_value}
use Rattle.elf_link_outputs.proofs.placing.placed_outputs.Given as goal

abbrev pub invariant-loop-members : goal.invariant-loop-members
invariant-loop-members l = record {
  start : l.start ≡ start_of (map (λ ms. ms.items) l.outputs) l.members-index;
  placed : ArePlacedOutputs l.objects (map (λ ms. ms.items) l.outputs) l.parts l.places l.members-index (map output_value l.placed.items);
}
