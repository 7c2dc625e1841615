use Rattle.elf_object_strings.specs.StringTable.{texts}
use Rattle.elf_object_strings.proofs.Written.{IsWrittenTo}
use Rattle.elf_object_strings.proofs.table.write_names.Given as goal

abbrev pub invariant-loop-i : goal.invariant-loop-i
invariant-loop-i l = IsWrittenTo (texts l.names) l.i l.bytes.items l.ends.items
