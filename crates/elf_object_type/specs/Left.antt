-- The relocations that an iterator over them has left.
use Rattle.std.specs.Prelude.{List, drop}
use Rattle.elf_object_type.specs.declared.relocations.Relocation.{Relocation}
use Rattle.elf_object_type.specs.declared.relocations.RelocationIter.{RelocationIter}

abbrev pub relocations_left : RelocationIter → List Relocation
relocations_left it = drop it.next it.relocations.now
