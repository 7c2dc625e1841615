use Rattle.elf_object_writer.proofs.HeaderTables.{header_read}
use Rattle.elf_object_writer.proofs.headers.header_at.Goals as goal

pub returns : goal.returns
returns c = λ d.
    let p = c.args.placed.now in
    header_read p.object p.layout c.args.position c.section_name.result c.place.result c.section-section.result c.header.result d c.requires
    c.section-section.ensures c.section_name.ensures c.place.ensures c.header.ensures
