-- Section header 0 is the first of the list; the one at another index i is that of the section at position i - 1.
use Rattle.std.proofs.Common.{◌+◌, ◌-◌, ℕ, ap, arith, sym, ◌∙◌}
use Rattle.elf_image_type.specs.WrittenFile.{first_header}
use Rattle.elf_object_strings.specs.StringTable.{name_offset}
use Rattle.elf_object_writer.specs.PlacedObject.{plain_section}
use Rattle.elf_object_layout.specs.Laid.{name_table_at, plain_sections, section_names}
use Rattle.elf_object_writer.specs.declared.placed_object.PlacedSection.TheVariants.{Names}
use Rattle.elf_object_writer.proofs.HeaderTables.{after_first, first_one, header_found, length-headers}
use Rattle.elf_object_writer.proofs.headers.SectionHeadersEntries.entry.Goals as goal

pub header_at-requires : goal.header_at-requires
header_at-requires c =
    let p = c.args.self.now.placed.now in
    let all = length-headers (name_offset (section_names p.object))
    (plain_sections p.object) p.layout.places c.prove_placed.ensures.layout.count in
    let within = c.requires.within in
    omega arith

pub returns-then-index-eq0 : goal.returns-then-index-eq0
returns-then-index-eq0 c =
    let p = c.args.self.now.placed.now in
    let o = p.object in
    let all = length-headers (name_offset (section_names o)) (plain_sections o) p.layout.places c.prove_placed.ensures.layout.count in
    c.first_header.ensures ∙ ap (λ (n : ℕ). first_header (n + 1) (name_table_at o)) (sym all) ∙
    sym (first_one _ _ c.args.index c.first_header.result c.if-index-eq0.true)

pub returns-else-index-eq0 : goal.returns-else-index-eq0
returns-else-index-eq0 c =
    let p = c.args.self.now.placed.now in
    let o = p.object in
    let all = length-headers (name_offset (section_names o)) (plain_sections o) p.layout.places c.prove_placed.ensures.layout.count in
    let within = c.requires.within in
    let d = plain_section o Names in
    let some = c.if-index-eq0.false in
    c.header_at.ensures d
    ∙ sym (after_first _ _ c.args.index c.header_at.result (omega arith)
    ∙ header_found (name_offset (section_names o)) (plain_sections o) p.layout.places
    (c.args.index - 1) c.header_at.result d c.prove_placed.ensures.layout.count (omega arith))
