use Rattle.elf_object_strings.specs.StringTable.{texts}
use Rattle.elf_object_strings.proofs.Numbering.{AreNumberedTo}
use Rattle.elf_object_strings.proofs.sorting.number_names.Given as goal

abbrev pub invariant-loop-index : goal.invariant-loop-index
invariant-loop-index l = AreNumberedTo (texts l.names) l.index l.numbered.items
