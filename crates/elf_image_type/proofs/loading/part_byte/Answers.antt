use Rattle.std.proofs.Common.{ap, arith, length}
use Rattle.elf_field.specs.laws.Headers.{ehdr_laws, phdr_laws, shdr_laws}
use Rattle.elf_field.proofs.RecordTableLaws.{length-table}
use Rattle.elf_image_rules.specs.Tables.{order_of}
use Rattle.elf_image_type.proofs.loading.part_byte.Goals as goal

pub record_byte-requires-clause-within : goal.record_byte-requires-clause-within
record_byte-requires-clause-within c =
    let header = c.args.outline.now.header in
    let whole = rw c.in-Header.is at c.requires.whole in
    let size = ehdr_laws.length_is (order_of header.e_ident) header in
    omega arith

pub table_byte-requires-clause-within : goal.table_byte-requires-clause-within
table_byte-requires-clause-within c =
    let outline = c.args.outline.now in
    let whole = rw c.in-SectionTable.is at c.requires.whole in
    let size = length-table shdr_laws (order_of outline.header.e_ident) outline.sections in
    let same = ap length c.sections.ensures in
    omega arith

pub table_byte-requires-in-ProgramTable-clause-within : goal.table_byte-requires-in-ProgramTable-clause-within
table_byte-requires-in-ProgramTable-clause-within c =
    let outline = c.args.outline.now in
    let whole = rw c.in-ProgramTable.is at c.requires.whole in
    let size = length-table phdr_laws (order_of outline.header.e_ident) outline.segments in
    let same = ap length c.segments.ensures in
    omega arith
