use Rattle.elf_link_map.specs.Naming.{IsBindingRow}
use Rattle.elf_link_map.proofs.bindings.file_indexes.Given as goal

abbrev pub invariant-loop-index : goal.invariant-loop-index
invariant-loop-index l = IsBindingRow l.objects l.map l.file l.index l.row.items
