-- What is left of an iterator over members, dynamic entries or relocations.
use Rattle.std.specs.Prelude.{ℕ, List, drop}
use Rattle.elf_field.specs.declared.dynamic.Dyn.{Dyn}
use Rattle.elf_table_lists.specs.declared.dynamic.DynamicIter.{DynamicIter}
use Rattle.elf_table_lists.specs.declared.group.GroupIter.{GroupIter}
use Rattle.elf_table_lists.specs.declared.relocations.RelocIter.{RelocIter}
use Rattle.elf_table_lists.specs.declared.relocations.Relocation.{Relocation}

-- The members that an iterator over them has left.

abbrev pub members_left : GroupIter → List ℕ
members_left it = drop it.next it.group.now.members

-- The entries that an iterator over a dynamic array has left.

abbrev pub dynamic_left : DynamicIter → List Dyn
dynamic_left it = drop it.next it.dynamic.now

-- The relocations that an iterator over them has left.

abbrev pub relocs_left : RelocIter → List Relocation
relocs_left it = drop it.next it.relocs.now
