use Rattle.std.proofs.Common.{◌≡◌, ◌<◌, ◌≤◌, ◌+◌, ◌∙◌, List, ℕ, ap, arith, length, subst, sym}
use Rattle.elf_field.specs.declared.shdr.Shdr.{Shdr}
use Rattle.elf_image_rules.specs.Tables.{bytes_in, content_extent}
use Rattle.elf_image_rules.specs.ValidatedRecords.{file_of}
use Rattle.elf_table_symbols.specs.Sections.{content, section, sections_in}
use Rattle.elf_table_symbols.proofs.ValidatedSections.{content_long, content_read}
use Rattle.elf_table_symbols.proofs.sections_of.content_in_file.Goals as goal

pub returns-clause-bytes : goal.returns-clause-bytes
returns-clause-bytes c =
    rw (c.content_of.ensures.content, c.bytes.ensures, c.section_in_file.ensures)
    (sym (content_read (file_of c.args.records.now) c.args.i c.requires))

pub returns-clause-size : goal.returns-clause-size
returns-clause-size c =
    ap (λ (bytes : List ℕ). length bytes) (returns-clause-bytes c)
    ∙ content_long (file_of c.args.records.now) c.args.i c.args.records.now.kept c.requires

pub returns-clause-inside : goal.returns-clause-inside
returns-clause-inside c some =
    let inside = rw (c.bytes.ensures, c.section_in_file.ensures) at (c.content_of.ensures.inside some) in
    let short = c.section_count.ensures.short in
    omega arith
