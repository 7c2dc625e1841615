use Rattle.std.proofs.Common.{ap, refl}
use Rattle.elf_c_parts.specs.declared.room.Slot.{Slot}
use Rattle.elf_c.proofs.ReadTables.{table_gathered}
use Rattle.elf_c.proofs.tables.table_of.Goals as goal

pub returns : goal.returns
returns c is =
    let (below, same) = c.in_ok-section.ensures.listed is in
    let (there, found) = c.in_ok-linked.ensures is in
    table_gathered c.args.file.now c.args.bytes.now c.args.index c.in_ok-section.section c.of-kind.result c.place_of_content-place.result
    c.in_ok-linked.linked c.in_ok-linked.strings c.length_of.result is below same c.of-kind.ensures there
    (ap (λ (p : Slot × Slot). p.0) found) (ap (λ (p : Slot × Slot). p.1) found) c.place_of_content-place.ensures
    (rw (c.length_of.ensures, c.order_of.ensures, c.bytes_of-content.ensures.content) refl)
