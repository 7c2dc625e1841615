-- By the numbers of a file, a name is found exactly if the index is below the count; it and its place are the definition's. For a NULL
-- section header, or without a name table, it is empty; else it is a string of the name table. The clause `lies` holds for any bytes and
-- numbers.
use Rattle.std.proofs.Common.{◌≢◌, ap, subst, sym, ◌∙◌}
use Rattle.elf_extent.specs.declared.extent.Extent.{Extent}
use Rattle.elf_field.specs.declared.shdr.Shdr.{Shdr}
use Rattle.elf_image_rules.specs.Tables.{bytes_in}
use Rattle.elf_field.specs.Strings.{string}
use Rattle.elf_c.specs.Tables.{string_place}
use Rattle.elf_c.proofs.ReadFiles.{none_there, section_at, section_below, name_in_table, name_of_null, name_without_table, place_in_table}
use Rattle.elf_c.proofs.ReadFiles.{place_of_null, place_without_table, table_below}
use Rattle.elf_c.proofs.file.name_of.Goals.{then-section-eq-SHT_NULL-via-then-section-eq-SHT_NULL}
use Rattle.elf_c.proofs.file.name_of.Goals.{then-section-eq-SHT_NULL-via-else-section-eq-SHT_NULL+then-file-eq0}
use Rattle.elf_c.proofs.file.name_of.Goals as goal

pub returns-in_err-section-clause-there : goal.returns-in_err-section-clause-there
returns-in_err-section-clause-there c is =
    none_there _ _ c.from_residual.ensures (λ below.
    c.in_err-section.ensures.read (section_at c.args.file.now c.args.bytes.now c.args.index is below).there)

pub returns-then-section-eq-SHT_NULL-clause-value : goal.returns-then-section-eq-SHT_NULL-clause-value
returns-then-section-eq-SHT_NULL-clause-value c is =
    let f = c.args.file.now in
    let b = c.args.bytes.now in
    let i = c.args.index in
    let below = section_below f b i _ is c.in_ok-section.ensures.read.0 in
    elim c.then-section-eq-SHT_NULL.branch [
      | then-section-eq-SHT_NULL-via-then-section-eq-SHT_NULL w ↦
          name_of_null b i c.in_ok-section.section
          (c.in_ok-section.ensures.read.1 ∙ (section_at f b i is below).read) w.if-section-eq-SHT_NULL.true
      | then-section-eq-SHT_NULL-via-else-section-eq-SHT_NULL+then-file-eq0 w ↦ name_without_table f b i is w.if-file-eq0.true
    ]

pub returns-then-section-eq-SHT_NULL-clause-stands : goal.returns-then-section-eq-SHT_NULL-clause-stands
returns-then-section-eq-SHT_NULL-clause-stands c is =
    let f = c.args.file.now in
    let b = c.args.bytes.now in
    let i = c.args.index in
    let below = section_below f b i _ is c.in_ok-section.ensures.read.0 in
    elim c.then-section-eq-SHT_NULL.branch [
      | then-section-eq-SHT_NULL-via-then-section-eq-SHT_NULL w ↦
          place_of_null b i c.in_ok-section.section
          (c.in_ok-section.ensures.read.1 ∙ (section_at f b i is below).read) w.if-section-eq-SHT_NULL.true
      | then-section-eq-SHT_NULL-via-else-section-eq-SHT_NULL+then-file-eq0 w ↦ place_without_table f b i is w.if-file-eq0.true
    ]

pub returns-in_err-table-clause-there : goal.returns-in_err-table-clause-there
returns-in_err-table-clause-there c is =
    let f = c.args.file.now in
    let b = c.args.bytes.now in
    absurd (c.in_err-table.ensures.read (section_at f b f.name_table is (table_below f b is c.if-file-eq0.false)).there)

pub returns-clause-value : goal.returns-clause-value
returns-clause-value c is =
    let f = c.args.file.now in
    let b = c.args.bytes.now in
    let i = c.args.index in
    let below = section_below f b i _ is c.in_ok-section.ensures.read.0 in
    let table = section_at f b f.name_table is (table_below f b is c.if-file-eq0.false) in
    c.place_of_string.ensures.value
    ∙ ap (λ (e : Extent). string (bytes_in b e) c.in_ok-section.section.sh_name) c.place_of_content.ensures
    ∙ name_in_table f b i c.in_ok-section.section c.in_ok-table.table is (c.in_ok-section.ensures.read.1 ∙ (section_at f b i is below).read)
    (c.in_ok-table.ensures.read.1 ∙ table.read) c.if-section-eq-SHT_NULL.false c.if-file-eq0.false

pub returns-clause-stands : goal.returns-clause-stands
returns-clause-stands c is =
    let f = c.args.file.now in
    let b = c.args.bytes.now in
    let i = c.args.index in
    let below = section_below f b i _ is c.in_ok-section.ensures.read.0 in
    let table = section_at f b f.name_table is (table_below f b is c.if-file-eq0.false) in
    c.place_of_string.ensures.stands
    ∙ ap (λ (e : Extent). string_place b e c.in_ok-section.section.sh_name) c.place_of_content.ensures
    ∙ place_in_table f b i c.in_ok-section.section c.in_ok-table.table is
    (c.in_ok-section.ensures.read.1 ∙ (section_at f b i is below).read)
    (c.in_ok-table.ensures.read.1 ∙ table.read) c.if-section-eq-SHT_NULL.false c.if-file-eq0.false

-- ---- of any bytes and numbers

pub returns-in_err-section-clause-lies : goal.returns-in_err-section-clause-lies
returns-in_err-section-clause-lies c = none_there _ _ c.from_residual.ensures (λ has. c.in_err-section.ensures.read has.0)

pub returns-then-section-eq-SHT_NULL-clause-lies : goal.returns-then-section-eq-SHT_NULL-clause-lies
returns-then-section-eq-SHT_NULL-clause-lies c =
    let read = ap (λ (s : Shdr). s.sh_type) (sym c.in_ok-section.ensures.read.1) in (
      λ _. (
        c.in_ok-section.ensures.read.0,
        λ typed some. elim c.then-section-eq-SHT_NULL.branch [
          | then-section-eq-SHT_NULL-via-then-section-eq-SHT_NULL w ↦ absurd (typed (read ∙ w.if-section-eq-SHT_NULL.true))
          | then-section-eq-SHT_NULL-via-else-section-eq-SHT_NULL+then-file-eq0 w ↦ absurd (some w.if-file-eq0.true)
        ],
      ),
      λ _. cc,
    )

pub returns-in_err-table-clause-lies : goal.returns-in_err-table-clause-lies
returns-in_err-table-clause-lies c =
    let typed = subst (λ (s : Shdr). s.sh_type ≢ 0) c.in_ok-section.ensures.read.1 c.if-section-eq-SHT_NULL.false in
    none_there _ _ c.from_residual-in_err-table.ensures (λ has. c.in_err-table.ensures.read (has.1 typed c.if-file-eq0.false))

pub returns-clause-lies : goal.returns-clause-lies
returns-clause-lies c = (λ _. (c.in_ok-section.ensures.read.0, λ typed some. c.in_ok-table.ensures.read.0), λ _. cc)
