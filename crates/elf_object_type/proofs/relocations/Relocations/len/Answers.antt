use Rattle.std.proofs.Common.{sym, ◌∙◌}
use Rattle.elf_object_type.proofs.PartsOfObjects.{length_table_relocations}
use Rattle.elf_object_type.proofs.relocations.Relocations.len.Goals as goal

pub returns-in-Table : goal.returns-in-Table
returns-in-Table c = rw (← c.self.view_is, c.in-Table.is) (c.count.ensures ∙ sym (length_table_relocations _ _ _))
