use Rattle.elf_object_type.proofs.relocations.Relocations.table.Goals as goal

pub returns-in-Table : goal.returns-in-Table
returns-in-Table c = rw (← c.self.view_is, c.in-Table.is) (c.is_of.ensures c.if-is_of.true)
