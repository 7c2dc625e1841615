use Rattle.std.proofs.Common.{map}
use Rattle.elf_link_outputs.specs.Placed.{AreEmptyRows}
use Rattle.elf_link_outputs.proofs.addresses.no_addresses.Given as goal

abbrev pub invariant-loop-file : goal.invariant-loop-file
invariant-loop-file l = AreEmptyRows l.objects l.file (map (λ row. row.items) l.rows.items)
