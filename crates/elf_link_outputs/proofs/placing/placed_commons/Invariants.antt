use Rattle.std.proofs.Common.{map}
use Rattle.elf_link_outputs.specs.Placed.{ArePlacedCommons, common_value}
use Rattle.elf_link_outputs.proofs.placing.placed_commons.Given as goal

abbrev pub invariant-loop-k : goal.invariant-loop-k
invariant-loop-k l = ArePlacedCommons l.objects l.commons l.places l.first l.k (map common_value l.placed.items)
