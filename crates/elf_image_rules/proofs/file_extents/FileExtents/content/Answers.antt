use Rattle.std.proofs.Common.{◌≡◌, ◌+◌, ◌-◌, ◌∙◌, ℕ, Some, ap, arith, sym}
use Rattle.elf_field.specs.declared.shdr.Shdr.{Shdr}
use Rattle.elf_image_rules.specs.ValidatedRecords.{file_extents, file_of}
use Rattle.elf_image_rules.specs.Tables.{content_extent, file_counts, header, sections}
use Rattle.elf_image_rules.proofs.Clean.{content_extent_at, length-file_extents}
use Rattle.elf_image_rules.proofs.file_extents.FileExtents.content.Goals as goal

pub section-requires : goal.section-requires
section-requires c = let long = length-file_extents c.args.self.now in omega arith

pub returns : goal.returns
unfolding file_extents
returns c =
    let b = file_of c.args.self.now.records in
    let s = sections b (header b) in
    let n = file_counts b in
    let i = c.args.section in
    let long = length-file_extents c.args.self.now in
    let within = c.requires in
    let same : i + 3 - 3 ≡ i = omega arith in
    let content = content_extent_at (header b) n.sections n.segments s (i + 3) (omega arith) (omega arith) in
    let read : content_extent (s (i + 3 - 3)) ≡ c.extent_of_content.result =
    ap (λ (k : ℕ). content_extent (s k)) same ∙ ap (λ (entry : Shdr). content_extent entry) (sym c.section.ensures) ∙
    sym c.extent_of_content.ensures in
    content ∙ ap Some read
