use Rattle.std.proofs.Common.{arith}
use Rattle.elf_object_strings.specs.StringTable.{name_offset}
use Rattle.elf_object_layout.specs.Laid.{plain_sections, section_names}
use Rattle.elf_object_writer.proofs.HeaderTables.{length-headers}
use Rattle.elf_object_layout.proofs.Public.{few_sections}
use Rattle.elf_object_writer.proofs.object_writing.write_headers.Goals as goal

pub write_entries-requires-clause-short : goal.write_entries-requires-clause-short
write_entries-requires-clause-short g c =
    let p = c.args.placed.now in
    let few = few_sections p.object p.layout c.prove_placed.ensures.layout in
    let all = length-headers (name_offset (section_names p.object))
    (plain_sections p.object) p.layout.places c.prove_placed.ensures.layout.count in
    omega arith
