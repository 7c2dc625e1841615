-- If the source reports its bytes and the header is theirs, section header 0 that was read is theirs too. So a rule of 13 to 21 that is
-- found broken is the first that they break. The tables read by the counts are their records (`tables_read`); if reading section headers
-- fails, the fault is one that may stop a scan.
use Rattle.std.proofs.Common.{◌≡◌, ◌≤◌, ◌∙◌, length, ap}
use Rattle.elf_image_rules.specs.declared.tables.Counts.{Counts}
use Rattle.elf_image_rules.specs.Tables.{sections, shdr_offset}
use Rattle.elf_image_outline.proofs.Scanned.{counts_are, first_at, program_table_broken, scans_fault, scans_rule, section_table_broken}
use Rattle.elf_image_outline.proofs.Scanned.{table_rules_kept, tables_read}
use Rattle.elf_image_outline.proofs.scanning.scan_tables.Goals as goal

pub returns-in_err-validate_section_table-clause-known : goal.returns-in_err-validate_section_table-clause-known
returns-in_err-validate_section_table-clause-known g c b known says is =
    let h = c.args.head.now.header in
    let first = c.in_ok-first.first in
    let read : first ≡ sections b h 0 = c.in_ok-first.ensures.known b known is in
    let broken = c.in_err-validate_section_table.field-0.0 in
    scans_rule b _ broken _
    (section_table_broken b c.args.head.now.len h first
    (broken.rule, broken.at) says is c.requires.kept read c.in_err-validate_section_table.ensures.fault)
    c.from_residual-in_err-validate_section_table.ensures.1

pub returns-in_err-validate_program_table-clause-known : goal.returns-in_err-validate_program_table-clause-known
returns-in_err-validate_program_table-clause-known g c b known says is =
    let h = c.args.head.now.header in
    let first = c.in_ok-first.first in
    let read : first ≡ sections b h 0 = c.in_ok-first.ensures.known b known is in
    let broken = c.in_err-validate_program_table.field-0.0 in
    scans_rule b _ broken _
    (program_table_broken b c.args.head.now.len h first
    (broken.rule, broken.at) says is c.requires.kept read c.in_ok-validate_section_table.ensures.fault
    c.in_err-validate_program_table.ensures.fault)
    c.from_residual-in_err-validate_program_table.ensures.1

pub returns-in_err-sections-clause-known : goal.returns-in_err-sections-clause-known
returns-in_err-sections-clause-known g c b known says is =
    let h = c.args.head.now.header in
    let first = c.in_ok-first.first in
    let count = c.counts_of-counts.result.sections in
    let read : first ≡ sections b h 0 = c.in_ok-first.ensures.known b known is in
    let counted = ap (λ (k : Counts). k.sections) c.counts_of-counts.ensures.value in
    let inside : shdr_offset h count ≤ length b = rw counted (rw says at c.in_ok-validate_section_table.ensures.inside) in
    scans_fault b _ c.in_err-sections.field-0.0 _
    (c.in_err-sections.ensures.known b (c.in_ok-first.ensures.kept ∙ known)
    (table_rules_kept b c.args.head.now.len h first says is c.requires.kept read c.in_ok-validate_section_table.ensures.fault
    c.in_ok-validate_program_table.ensures.fault)
    is (ap (λ (k : Counts). k.sections) (counts_are b h first _ is read c.counts_of-counts.ensures.value))
    (λ some. first_at b h first count read counted some))
    c.from_residual-in_err-sections.ensures.1

pub returns-clause-known : goal.returns-clause-known
returns-clause-known g c b known says is =
    let h = c.args.head.now.header in
    let first = c.in_ok-first.first in
    let counts = c.counts_of-counts.result in
    let read : first ≡ sections b h 0 = c.in_ok-first.ensures.known b known is in
    let counted = ap (λ (k : Counts). k.sections) c.counts_of-counts.ensures.value in
    let inside : shdr_offset h counts.sections ≤ length b = rw counted (rw says at c.in_ok-validate_section_table.ensures.inside) in
    tables_read b h first counts c.in_ok-sections.sections.items c.in_ok-segments.segments.items is read c.counts_of-counts.ensures.value
    (c.in_ok-sections.ensures.known b (c.in_ok-first.ensures.kept ∙ known)
    (table_rules_kept b c.args.head.now.len h first says is c.requires.kept read c.in_ok-validate_section_table.ensures.fault
    c.in_ok-validate_program_table.ensures.fault)
    is (ap (λ (k : Counts). k.sections) (counts_are b h first _ is read c.counts_of-counts.ensures.value))
    (λ some. first_at b h first counts.sections read counted some))
    (rw c.order_in-order.ensures at
    (c.in_ok-segments.ensures.ok.known b (c.in_ok-sections.ensures.kept ∙ c.in_ok-first.ensures.kept ∙ known)))
