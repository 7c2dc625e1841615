use Rattle.std.proofs.Common.{ap}
use Rattle.elf_object_type.specs.Object.{section_at}
use Rattle.elf_object_type.specs.ObjectView.{body_value, section_value}
use Rattle.elf_object_writer.proofs.HeaderTables.{bits_header}
use Rattle.elf_object_writer.proofs.headers.own_header.Goals as goal

pub returns-in-Bits : goal.returns-in-Bits
returns-in-Bits c = λ name_at is.
    let o = c.args.placed.now.object in
    let s = c.object_section-section.result.now in
    bits_header o (section_at o c.args.position)
    (section_value s) c.in-Bits.field-0 c.in-Bits.field-1.now name_at c.args.header c.section_type.result c.index_of.result
    c.own_info.result
    c.object_section-section.ensures.value
    (ap body_value c.in-Bits.is) c.object_section-section.ensures.fits.right c.section_type.ensures c.index_of.ensures c.own_info.ensures is
