use Rattle.std.proofs.Common.{arith}
use Rattle.elf_object_strings.specs.StringTable.{name_offset}
use Rattle.elf_object_layout.specs.Laid.{plain_sections, section_names}
use Rattle.elf_object_writer.proofs.HeaderTables.{length-headers}
use Rattle.elf_object_writer.proofs.headers.SectionHeadersEntries.count.Goals as goal

pub returns : goal.returns
returns c =
    let p = c.args.self.now.placed.now in
    let all = length-headers (name_offset (section_names p.object))
    (plain_sections p.object) p.layout.places c.prove_placed.ensures.layout.count in
    let is = c.header_count.ensures.value in
    omega arith
