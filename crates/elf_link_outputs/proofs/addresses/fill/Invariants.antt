use Rattle.std.proofs.Common.{map}
use Rattle.elf_link_outputs.specs.Placed.{AreFilled}
use Rattle.elf_link_outputs.proofs.addresses.fill.Given as goal

abbrev pub invariant-loop-k : goal.invariant-loop-k
invariant-loop-k l = AreFilled l.objects l.sites l.places l.k (map (λ row. row.items) l.rows.items)
