-- If the source reports its bytes and the tables were read from them, the ends that were read are those of the bytes' names (`names_are`,
-- `ends_there`). A read that failed is of one of these two ends (`end_read`).
use Rattle.std.proofs.Common.{◌≡◌, ◌-◌, ◌∙◌, ℕ, inr, min, ap, subst, sym}
use Rattle.elf_extent.specs.declared.extent.Extent.{Extent}
use Rattle.elf_image_rules.specs.Rules.{AreEnds}
use Rattle.elf_image_rules.specs.Tables.{bytes_in}
use Rattle.elf_image_stream.specs.declared.fault.Fault.TheVariants.{Io}
use Rattle.elf_image_outline.specs.Scanning.{IsEndIn, names_place}
use Rattle.elf_image_outline.proofs.Scanned.{end_read, ends_there, names_are, place_is, scans_fault}
use Rattle.elf_image_outline.proofs.scanning.scan_names.Goals as goal

pub returns-clause-known : goal.returns-clause-known
returns-clause-known g c b known says has records =
    let t = c.args.tables.now in
    let ends = c.in_ok-read_ends.field-0 in
    let extent = c.extent_of_names-extent.result in
    let there : c.min-there.result ≡ min (c.args.len - extent.start) extent.len =
    c.min-there.ensures ∙ ap (λ (k : ℕ). min k extent.len) c.saturating_sub.ensures in
    let named = names_are c.args.len b t.header t.counts t.sections.items t.segments.items has records
    ∙ ap (bytes_in b) (sym c.extent_of_names-extent.ensures) in
    subst (AreEnds ends) (sym named)
    (ends_there b ends extent c.args.len c.min-there.result says there c.in_ok-read_ends.ensures.reads.2
    (c.in_ok-read_ends.ensures.reads.3 b known))

pub returns-in_err-read_ends-clause-known : goal.returns-in_err-read_ends-clause-known
returns-in_err-read_ends-clause-known g c b known says has records =
    let t = c.args.tables.now in
    let extent = c.extent_of_names-extent.result in
    let failed = c.in_err-read_ends.field-0.0 in
    let (within, end) = c.in_err-read_ends.ensures.reads in
    let there : c.min-there.result ≡ min (c.args.len - extent.start) extent.len =
    c.min-there.ensures ∙ ap (λ (k : ℕ). min k extent.len) c.saturating_sub.ensures in
    let place : extent ≡ names_place b =
    c.extent_of_names-extent.ensures ∙ place_is c.args.len b t.header t.counts t.sections.items t.segments.items has records in
    scans_fault b _ (Io failed.at) _
    (inr (inr (inr (inr (subst (λ (e : Extent). IsEndIn b e failed.at) place
    (end_read b extent c.args.len c.min-there.result failed.at says there within.0 within.1 end))))))
    c.from_residual.ensures.1
