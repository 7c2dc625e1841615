use Rattle.std.proofs.Common.{map}
use Rattle.elf_link_map.specs.Naming.{AreBindingRows}
use Rattle.elf_link_map.proofs.bindings.name_indexes.Given as goal

abbrev pub invariant-loop-file : goal.invariant-loop-file
invariant-loop-file l = AreBindingRows l.objects l.map l.file (map (λ row. row.items) l.rows.items)
