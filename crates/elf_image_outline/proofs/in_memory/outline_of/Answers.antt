-- The records that were read are the file's (`records_read`), so their extents lie in it (`read_within`). A byte that two of them hold is
-- the file's fault (`stops_shared`). Otherwise the records and the parts make its image (`image_read`), so that the outline is sound.
use Rattle.std.proofs.Common.{List, None, ap₂, length, map, rules, subst, sym}
use Rattle.elf_extent.specs.Account.{Accounts}
use Rattle.elf_extent.specs.Extent.{AreWithin, Doubly, IsLowest}
use Rattle.elf_extent.specs.declared.extent.Extent.{Extent}
use Rattle.elf_field.specs.Bytes.{IsBytes}
use Rattle.elf_image_outline.specs.Image.{IsImage, part_piece, value_extents}
use Rattle.elf_image_outline.specs.Outline.{OutlineValue, image_in, outline_value}
use Rattle.elf_image_outline.specs.Scanning.{IsSharedFault, StopsInMemory}
use Rattle.elf_image_outline.proofs.InMemory.{image_read, read_within, records_read, stops_shared}
use Rattle.elf_image_outline.proofs.Scanned.{blank_of, stopped}
use Rattle.elf_image_outline.proofs.Theorem.{image_is_sound}
use Rattle.elf_image_outline.proofs.in_memory.outline_of.Goals as goal

pub unshared_parts-requires-clause-within : goal.unshared_parts-requires-clause-within
unshared_parts-requires-clause-within c =
    let b = c.args.bytes.now in
    let h = c.header-header.result in
    let file = c.in_ok-records.ensures.file in
    let records = records_read _ b h c.in_ok-sections.sections.items c.in_ok-segments.segments.items file
    c.header-header.ensures c.in_ok-sections.ensures c.in_ok-segments.ensures in
    subst (λ (es : List Extent). AreWithin es (length b))
    (sym (ap₂ (value_extents h) c.deref.ensures.value c.deref-2.ensures.value))
    (read_within b h _ _ c.in_ok-records.ensures.kept records)

pub returns-in_err-parts-clause-err : goal.returns-in_err-parts-clause-err
returns-in_err-parts-clause-err c =
    let b = c.args.bytes.now in
    let h = c.header-header.result in
    let file = c.in_ok-records.ensures.file in
    let records = records_read _ b h c.in_ok-sections.sections.items c.in_ok-segments.segments.items file
    c.header-header.ensures c.in_ok-sections.ensures c.in_ok-segments.ensures in
    let fault = c.in_err-parts.field-0.0 in
    stopped (StopsInMemory b) fault _
    (stops_shared b h _ _ fault c.in_ok-records.ensures.kept records
    (subst (λ (es : List Extent). IsSharedFault es fault) (ap₂ (value_extents h) c.deref.ensures.value c.deref-2.ensures.value)
    c.in_err-parts.ensures.err))
    c.from_residual-in_err-parts.ensures.1

pub new-requires : goal.new-requires
new-requires c =
    let b = c.args.bytes.now in
    let h = c.header-header.result in
    let file = c.in_ok-records.ensures.file in
    let records = records_read _ b h c.in_ok-sections.sections.items c.in_ok-segments.segments.items file
    c.header-header.ensures c.in_ok-sections.ensures c.in_ok-segments.ensures in
    let same = ap₂ (value_extents h) c.deref.ensures.value c.deref-2.ensures.value in
    let ps = c.in_ok-parts.parts.items in
    let are : IsBytes b = search rules in
    let o = outline_value (length b) h c.in_ok-sections.sections.items c.in_ok-segments.segments.items ps in
    blank_of o b
    (image_is_sound (image_in o b) b
    (image_read b h c.in_ok-sections.sections.items c.in_ok-segments.segments.items ps are c.in_ok-records.ensures.kept records
    (subst (λ (es : List Extent). IsLowest (Doubly es) None) same c.in_ok-parts.ensures.unshared)
    (subst (λ (es : List Extent). Accounts es (length b) 0 (map part_piece ps)) same c.in_ok-parts.ensures.parts)))

pub returns-clause-image : goal.returns-clause-image
returns-clause-image c =
    let b = c.args.bytes.now in
    let h = c.header-header.result in
    let file = c.in_ok-records.ensures.file in
    let records = records_read _ b h c.in_ok-sections.sections.items c.in_ok-segments.segments.items file
    c.header-header.ensures c.in_ok-sections.ensures c.in_ok-segments.ensures in
    let same = ap₂ (value_extents h) c.deref.ensures.value c.deref-2.ensures.value in
    let ps = c.in_ok-parts.parts.items in
    let are : IsBytes b = search rules in
    subst (λ (o : OutlineValue). IsImage (image_in o b) b) (sym c.new.ensures)
    (image_read b h c.in_ok-sections.sections.items c.in_ok-segments.segments.items ps are c.in_ok-records.ensures.kept records
    (subst (λ (es : List Extent). IsLowest (Doubly es) None) same c.in_ok-parts.ensures.unshared)
    (subst (λ (es : List Extent). Accounts es (length b) 0 (map part_piece ps)) same c.in_ok-parts.ensures.parts))

pub returns-clause-of : goal.returns-clause-of
returns-clause-of c = image_is_sound _ c.args.bytes.now (returns-clause-image c)
