use Rattle.std.proofs.Common.{arith, refl}
use Rattle.elf_image_outline.proofs.Edited.{names_held, names_index}
use Rattle.elf_image_type.proofs.image.Image.names.Goals as goal

pub index-requires : goal.index-requires
index-requires c =
    let table = rw (← c.self.view_is) at c.name_table-index.ensures in
    let there = names_index _ c.self.inside.contents.items c.name_table-index.result c.self.invariant refl table (omega arith) in
    omega arith

pub returns : goal.returns
returns c =
    let table = rw (← c.self.view_is) at c.name_table-index.ensures in
    rw (← c.self.view_is)
    (names_held _ c.self.inside.contents.items c.name_table-index.result c.index.result.now c.self.invariant refl table
    (omega arith) c.index.ensures)
