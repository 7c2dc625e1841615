-- If the source reports its bytes, a rule that the last stage finds broken is the first that they break (`stops_of_tables`). Earlier stages
-- have their own proofs. If no rule is broken, the outline makes their image (`image_of_tables`), and so it is the outline of these bytes
-- (`image_is_sound`).
use Rattle.std.proofs.Common.{◌∙◌, subst, sym}
use Rattle.elf_image_outline.specs.Image.{IsImage}
use Rattle.elf_image_outline.specs.Outline.{OutlineValue, image_in}
use Rattle.elf_image_outline.proofs.Scanned.{image_of_tables, stops_of_tables, scans_fault}
use Rattle.elf_image_outline.proofs.Theorem.{image_is_sound}
use Rattle.elf_image_stream.specs.Faults.{bytes_fault}
use Rattle.elf_image_outline.proofs.scanning.scan.Goals as goal

pub returns-in_err-parts-clause-known : goal.returns-in_err-parts-clause-known
returns-in_err-parts-clause-known g c b known =
    let t = c.in_ok-tables.tables in
    let has = c.in_ok-tables.ensures.tables in
    let (says, is) = c.in_ok-head.ensures.known b known in
    let records = c.in_ok-tables.ensures.known b (c.in_ok-head.ensures.kept ∙ known) says is in
    let ends = c.in_ok-ends.ensures.known b (c.in_ok-tables.ensures.kept ∙ c.in_ok-head.ensures.kept ∙ known) says has records in
    scans_fault b _ (bytes_fault c.in_err-parts.field-0.0) _
    (stops_of_tables c.in_ok-head.head.len b t.header t.counts t.sections.items t.segments.items c.in_err-parts.field-0.0 says has records
    (c.in_err-parts.ensures.err _ ends))
    c.from_residual-in_err-parts.ensures.1

pub returns-clause-known : goal.returns-clause-known
returns-clause-known g c b known =
    let are = c.in_ok-head.ensures.bytes b known in
    let t = c.in_ok-tables.tables in
    let has = c.in_ok-tables.ensures.tables in
    let (says, is) = c.in_ok-head.ensures.known b known in
    let records = c.in_ok-tables.ensures.known b (c.in_ok-head.ensures.kept ∙ known) says is in
    let ends = c.in_ok-ends.ensures.known b (c.in_ok-tables.ensures.kept ∙ c.in_ok-head.ensures.kept ∙ known) says has records in
    subst (λ (o : OutlineValue). IsImage (image_in o b) b) (sym c.new.ensures)
    (image_of_tables c.in_ok-head.head.len b t.header t.counts t.sections.items t.segments.items c.in_ok-parts.parts.items says are has
    records
    (c.in_ok-parts.ensures.ok _ ends))

pub returns-clause-of : goal.returns-clause-of
returns-clause-of g c b known = image_is_sound _ b (returns-clause-known g c b known)
