use Rattle.std.proofs.Common.{◌<◌, sym, ◌∙◌}
use Rattle.elf_object_type.specs.Object.{table_count}
use Rattle.elf_object_type.proofs.PartsOfObjects.{length_table_relocations, table_relocation_get}
use Rattle.elf_object_type.proofs.relocations.Relocations.entry.Goals as goal

pub entry-requires : goal.entry-requires
entry-requires c =
    let t = c.in-Table.table in
    rw (← c.self.view_is, c.in-Table.is, length_table_relocations t.rela t.order t.bytes.now) at c.requires

pub returns-in-Table : goal.returns-in-Table
returns-in-Table c =
    let t = c.in-Table.table in
    let within : c.args.j < table_count t.rela t.bytes.now =
    rw (← c.self.view_is, c.in-Table.is, length_table_relocations t.rela t.order t.bytes.now) at c.requires in
    rw (← c.self.view_is, c.in-Table.is) (c.entry.ensures ∙ sym (table_relocation_get _ _ _ c.args.j within))
