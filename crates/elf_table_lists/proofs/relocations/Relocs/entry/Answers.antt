use Rattle.std.proofs.Common.{sym}
use Rattle.elf_table_lists.proofs.EntryLists.{length_relocations, relocation_get}
use Rattle.elf_table_lists.proofs.relocations.Relocs.entry.Goals as goal

pub relocation_at-requires : goal.relocation_at-requires
relocation_at-requires c =
    let within = rw (← c.self.view_is) at c.requires in
    rw (length_relocations c.self.inside.addends c.self.inside.order c.self.inside.table.now) at within

pub returns : goal.returns
returns c =
    let within = rw (← c.self.view_is) at c.requires in
    let below = rw (length_relocations c.self.inside.addends c.self.inside.order c.self.inside.table.now) at within in
    rw (← c.self.view_is) (rw c.relocation_at.ensures (sym (relocation_get _ _ _ c.args.j below)))
