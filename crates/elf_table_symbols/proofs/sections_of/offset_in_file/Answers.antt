-- Each section header lies in the file: the file of validated records has room for the whole table.
use Rattle.std.proofs.Common.{◌<◌, ◌≤◌, ◌+◌, ◌*◌, ℕ, arith, length, refl, subst, sym}
use Rattle.elf_field.specs.Abi.{SHDR_SIZE}
use Rattle.elf_field.specs.declared.ehdr.Ehdr.{Ehdr}
use Rattle.elf_image_rules.specs.Tables.{file_counts, header}
use Rattle.elf_image_rules.specs.ValidatedRecords.{file_of}
use Rattle.elf_table_symbols.specs.Sections.{sections_in}
use Rattle.elf_table_symbols.proofs.ValidatedSections.{count_read}
use Rattle.elf_table_symbols.proofs.sections_of.offset_in_file.Goals as goal

pub overflow_mul-result : goal.overflow_mul-result
overflow_mul-result c =
    let b = file_of c.args.records.now in
    let below : c.args.i < (file_counts b).sections = subst (λ (n : ℕ). c.args.i < n) (count_read b) c.requires in
    let count = c.section_count.ensures.count in
    let inside = c.section_count.ensures.inside in
    let short = c.section_count.ensures.short in
    omega arith

pub overflow_add-result : goal.overflow_add-result
overflow_add-result c =
    let b = file_of c.args.records.now in
    let below : c.args.i < (file_counts b).sections = subst (λ (n : ℕ). c.args.i < n) (count_read b) c.requires in
    let count = c.section_count.ensures.count in
    let inside = c.section_count.ensures.inside in
    let short = c.section_count.ensures.short in
    rw c.header.ensures (omega arith)

pub returns-clause-value : goal.returns-clause-value
unfolding sections_in
returns-clause-value c = rw c.header.ensures refl

pub returns-clause-inside : goal.returns-clause-inside
returns-clause-inside c =
    let b = file_of c.args.records.now in
    let below : c.args.i < (file_counts b).sections = subst (λ (n : ℕ). c.args.i < n) (count_read b) c.requires in
    let count = c.section_count.ensures.count in
    let inside = c.section_count.ensures.inside in
    let short = c.section_count.ensures.short in
    rw c.header.ensures (omega arith)
