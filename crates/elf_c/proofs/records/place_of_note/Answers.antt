use Rattle.std.proofs.Common.{ap, arith, ◌∙◌}
use Rattle.elf_extent.specs.declared.extent.Extent.{Extent}
use Rattle.elf_image_rules.specs.Tables.{bytes_in}
use Rattle.elf_c.proofs.NotePlaces.{content_begins, note_at_owner, owns_content}
use Rattle.elf_c.proofs.records.place_of_note.Goals as goal

pub returns-in_default : goal.returns-in_default
returns-in_default c =
    λ p has. c.in_default.ensures.read (owns_content c.args.file.now c.args.bytes.now c.args.offset c.args.owner has.0 has.2).1

pub note_place-requires : goal.note_place-requires
note_place-requires c =
    content_begins c.args.file.now c.args.bytes.now c.args.offset c.args.owner _ c.in-Some.section
    (omega arith) c.requires c.in-Some.ensures.read.1
    (ap (λ (e : Extent). e.start) c.place_of_content-place.ensures)

pub returns : goal.returns
returns c =
    note_at_owner c.args.file.now c.args.bytes.now c.args.offset c.args.owner _ _ _ _ c.in-Some.section
    (omega arith) c.requires c.in-Some.ensures.read.1
    c.if-section-ne-SHT_NOTE.false c.order_of.ensures
    (c.bytes_of-content.ensures.content ∙ ap (bytes_in c.args.bytes.now) c.place_of_content-place.ensures)
    (ap (λ (e : Extent). e.start) c.place_of_content-place.ensures) c.note_place.ensures
