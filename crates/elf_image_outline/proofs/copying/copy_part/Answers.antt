-- By the owner of the part: a record's bytes, or zeros of a gap, come from the outline; other bytes are copied from the source. In each
-- case they are the part's bytes, or a beginning of them if the call fails. A range that is copied lies in the source's bytes
-- (`known_within`).
use Rattle.std.proofs.Common.{[], ◌∷◌, ◌∙◌, sym, true}
use Rattle.std.specs.Prelude.{replicate}
use Rattle.std.specs.List.{flat_map}
use Rattle.std.proofs.lemmas.List.{length-replicate}
use Rattle.elf_field.specs.Headers.{ehdr_bytes, phdr_bytes, shdr_bytes}
use Rattle.elf_image_rules.specs.Tables.{order_of}
use Rattle.elf_image_outline.specs.Outline.{blank_image, image_in, placed_part}
use Rattle.elf_image_outline.proofs.PartsOut.{copies_as, copies_own, out_own, content_part, gap_part, header_part, own_whole, part_fits}
use Rattle.elf_image_outline.proofs.PartsOut.{sections_part, segments_part, known_within, zeroed_part}
use Rattle.elf_image_outline.proofs.copying.copy_part.Goals as goal

pub returns-in_err-write_records-in-Header-clause-copies : goal.returns-in_err-write_records-in-Header-clause-copies
returns-in_err-write_records-in-Header-clause-copies g c =
    let o = c.args.outline.now in
    let p = c.args.part in
    let own = flat_map (ehdr_bytes (order_of o.header.e_ident)) (o.header ∷ []) in
    let long = own_whole o c.requires.part.0 p own c.requires.sound c.requires.part.1
    (header_part (blank_image o) (placed_part true [] p) c.in-Header.is) in
    let went = rw (c.order.ensures, c.header.ensures) at c.in_err-write_records-in-Header.ensures in
    copies_own _ _ _ p.len _ own _ _ long
    (λ b. header_part (image_in o b) (placed_part o.zeroed b p) c.in-Header.is) went c.from_residual.ensures.1

pub returns-in_ok-write_records-in-Header-clause-copies : goal.returns-in_ok-write_records-in-Header-clause-copies
returns-in_ok-write_records-in-Header-clause-copies g c =
    let o = c.args.outline.now in
    let p = c.args.part in
    let own = flat_map (ehdr_bytes (order_of o.header.e_ident)) (o.header ∷ []) in
    let long = own_whole o c.requires.part.0 p own c.requires.sound c.requires.part.1
    (header_part (blank_image o) (placed_part true [] p) c.in-Header.is) in
    let went = rw (c.order.ensures, c.header.ensures) at c.in_ok-write_records-in-Header.ensures in
    out_own _ _ _ p.len own _ long (λ b. header_part (image_in o b) (placed_part o.zeroed b p) c.in-Header.is) went

pub returns-in_err-write_records-in-SectionTable-clause-copies : goal.returns-in_err-write_records-in-SectionTable-clause-copies
returns-in_err-write_records-in-SectionTable-clause-copies g c =
    let o = c.args.outline.now in
    let p = c.args.part in
    let own = flat_map (shdr_bytes (order_of o.header.e_ident)) o.sections in
    let long = own_whole o c.requires.part.0 p own c.requires.sound c.requires.part.1
    (sections_part (blank_image o) (placed_part true [] p) c.in-SectionTable.is) in
    let went = rw (c.order-in-SectionTable.ensures, c.sections.ensures) at c.in_err-write_records-in-SectionTable.ensures in
    copies_own _ _ _ p.len _ own _ _ long
    (λ b. sections_part (image_in o b) (placed_part o.zeroed b p) c.in-SectionTable.is) went
    c.from_residual-in_err-write_records-in-SectionTable.ensures.1

pub returns-in_ok-write_records-in-SectionTable-clause-copies : goal.returns-in_ok-write_records-in-SectionTable-clause-copies
returns-in_ok-write_records-in-SectionTable-clause-copies g c =
    let o = c.args.outline.now in
    let p = c.args.part in
    let own = flat_map (shdr_bytes (order_of o.header.e_ident)) o.sections in
    let long = own_whole o c.requires.part.0 p own c.requires.sound c.requires.part.1
    (sections_part (blank_image o) (placed_part true [] p) c.in-SectionTable.is) in
    let went = rw (c.order-in-SectionTable.ensures, c.sections.ensures) at c.in_ok-write_records-in-SectionTable.ensures in
    out_own _ _ _ p.len own _ long (λ b. sections_part (image_in o b) (placed_part o.zeroed b p) c.in-SectionTable.is) went

pub returns-in_err-write_records-in-ProgramTable-clause-copies : goal.returns-in_err-write_records-in-ProgramTable-clause-copies
returns-in_err-write_records-in-ProgramTable-clause-copies g c =
    let o = c.args.outline.now in
    let p = c.args.part in
    let own = flat_map (phdr_bytes (order_of o.header.e_ident)) o.segments in
    let long = own_whole o c.requires.part.0 p own c.requires.sound c.requires.part.1
    (segments_part (blank_image o) (placed_part true [] p) c.in-ProgramTable.is) in
    let went = rw (c.order-in-ProgramTable.ensures, c.segments.ensures) at c.in_err-write_records-in-ProgramTable.ensures in
    copies_own _ _ _ p.len _ own _ _ long
    (λ b. segments_part (image_in o b) (placed_part o.zeroed b p) c.in-ProgramTable.is) went
    c.from_residual-in_err-write_records-in-ProgramTable.ensures.1

pub returns-in_ok-write_records-in-ProgramTable-clause-copies : goal.returns-in_ok-write_records-in-ProgramTable-clause-copies
returns-in_ok-write_records-in-ProgramTable-clause-copies g c =
    let o = c.args.outline.now in
    let p = c.args.part in
    let own = flat_map (phdr_bytes (order_of o.header.e_ident)) o.segments in
    let long = own_whole o c.requires.part.0 p own c.requires.sound c.requires.part.1
    (segments_part (blank_image o) (placed_part true [] p) c.in-ProgramTable.is) in
    let went = rw (c.order-in-ProgramTable.ensures, c.segments.ensures) at c.in_ok-write_records-in-ProgramTable.ensures in
    out_own _ _ _ p.len own _ long (λ b. segments_part (image_in o b) (placed_part o.zeroed b p) c.in-ProgramTable.is) went

pub copy_range-requires-clause-fits : goal.copy_range-requires-clause-fits
copy_range-requires-clause-fits g c = part_fits c.args.outline.now c.requires.part.0 c.args.part c.requires.sound c.requires.part.1

pub copy_range-requires-clause-within : goal.copy_range-requires-clause-within
copy_range-requires-clause-within g c b known =
    let o = c.args.outline.now in
    let of = c.requires.of b known in
    known_within o b c.requires.part.0 c.args.part of c.requires.part.1
    (content_part o b c.requires.part.0 _ c.args.part of c.requires.part.1 c.in-Content.is)

pub returns-in_err-write_zeros-in-Gap-clause-copies : goal.returns-in_err-write_zeros-in-Gap-clause-copies
returns-in_err-write_zeros-in-Gap-clause-copies g c =
    let o = c.args.outline.now in
    let p = c.args.part in
    let own = replicate p.len 0 in
    copies_own _ _ _ p.len _ own _ _ (length-replicate p.len 0)
    (λ b. zeroed_part (image_in o b) o.zeroed b p (sym c.is_zeroed.ensures ∙ c.if-is_zeroed.true) c.in-Gap.is)
    c.in_err-write_zeros-in-Gap.ensures c.from_residual-in_err-write_zeros-in-Gap.ensures.1

pub copy_range-requires-in-Gap-2-clause-fits : goal.copy_range-requires-in-Gap-2-clause-fits
copy_range-requires-in-Gap-2-clause-fits g c = part_fits c.args.outline.now c.requires.part.0 c.args.part c.requires.sound c.requires.part.1

pub copy_range-requires-in-Gap-2-clause-within : goal.copy_range-requires-in-Gap-2-clause-within
copy_range-requires-in-Gap-2-clause-within g c b known =
    let o = c.args.outline.now in
    known_within o b c.requires.part.0 c.args.part (c.requires.of b known) c.requires.part.1
    (gap_part o b c.args.part (sym c.is_zeroed.ensures ∙ c.if-is_zeroed.false) c.in-Gap-2.is)

pub returns-in-Content-clause-copies : goal.returns-in-Content-clause-copies
returns-in-Content-clause-copies g c =
    let o = c.args.outline.now in
    copies_as _ _ _ _ _ _ _
    (λ b known. content_part o b c.requires.part.0 _ c.args.part (c.requires.of b known) c.requires.part.1 c.in-Content.is)
    c.copy_range.ensures.copies
