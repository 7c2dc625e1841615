use Rattle.elf_image_rules.specs.ValidatedRecords.{file_extents}
use Rattle.elf_extent.proofs.Public.{held_nonempty, lowest_held}
use Rattle.elf_c_parts.proofs.room.lowest_shared_byte.Goals as goal

pub lowest_double-requires : goal.lowest_double-requires
lowest_double-requires c =
    let es = file_extents c.args.extents.now in
    rw c.put_extents-count.ensures.held (held_nonempty es)

pub returns : goal.returns
returns c =
    let es = file_extents c.args.extents.now in
    lowest_held es _ (rw c.put_extents-count.ensures.held at c.lowest_double.ensures)
