use Rattle.std.proofs.Common.{arith}
use Rattle.elf_table_symbols.specs.Sections.{sections_in}
use Rattle.elf_c.proofs.ReadTables.{count_by_numbers, first_index_place, no_index_place}
use Rattle.elf_c.proofs.tables.place_of_index_table.Goals as goal

pub returns-in_default : goal.returns-in_default
returns-in_default c is =
    let counted = count_by_numbers c.args.file.now c.args.bytes.now is in
    let within = c.loop-j-test.true in
    absurd (c.in_default.ensures.listed is (omega arith))

pub returns-then-section-index : goal.returns-then-section-index
returns-then-section-index c is =
    let (below, same) = c.in-Some.ensures.listed is in
    first_index_place (sections_in c.args.bytes.now) c.args.index c.loop-j.j c.in-Some.section c.place_of_content.result below same
    c.place_of_content.ensures c.if-section-eq-SHT_SYMTAB_SHNDX.true c.if-section-index.true (c.loop-j.invariant is)

pub returns : goal.returns
returns c is =
    let counted = count_by_numbers c.args.file.now c.args.bytes.now is in
    let all = c.loop-j-test.false in
    no_index_place (sections_in c.args.bytes.now) c.args.index (λ k below. c.loop-j.invariant is k (omega arith))
