-- The length and the header that were read are those of the bytes that the source reports. So a rule of 1 to 12 that a stage finds broken
-- is the first one that the file breaks (`length_broken`, `ident_broken`, `header_broken`).
use Rattle.std.proofs.Common.{◌≡◌, ◌∙◌}
use Rattle.elf_image_rules.specs.Tables.{header}
use Rattle.elf_image_outline.proofs.Scanned.{header_broken, header_of_block, ident_broken, length_broken, scans_rule, known_length}
use Rattle.elf_image_outline.proofs.scanning.scan_head.Goals as goal

pub returns-in_err-validate_length-clause-known : goal.returns-in_err-validate_length-clause-known
returns-in_err-validate_length-clause-known g c b known =
    let says = known_length _ b c.in-Ok.len known c.in-Ok.ensures.length in
    let broken = c.in_err-validate_length.field-0.0 in
    scans_rule b _ broken _
    (length_broken b c.in-Ok.len (broken.rule, broken.at) says c.in_err-validate_length.ensures.fault) c.from_residual.ensures.1

pub returns-in_err-validate_ident-clause-known : goal.returns-in_err-validate_ident-clause-known
returns-in_err-validate_ident-clause-known g c b known =
    let says = known_length _ b c.in-Ok.len known c.in-Ok.ensures.length in
    let is : c.header_of-header.result ≡ header b =
    c.header_of-header.ensures ∙
    header_of_block b _ c.in_ok-read_exactly.ensures.same (c.in_ok-read_exactly.ensures.reads.1 b (c.in-Ok.ensures.kept ∙ known)) in
    let broken = c.in_err-validate_ident.field-0.0 in
    scans_rule b _ broken _
    (ident_broken b c.in-Ok.len c.header_of-header.result
    (broken.rule, broken.at) says is c.in_ok-validate_length.ensures.fault c.in_err-validate_ident.ensures)
    c.from_residual-in_err-validate_ident.ensures.1

pub returns-in_err-validate_header-clause-known : goal.returns-in_err-validate_header-clause-known
returns-in_err-validate_header-clause-known g c b known =
    let says = known_length _ b c.in-Ok.len known c.in-Ok.ensures.length in
    let is : c.header_of-header.result ≡ header b =
    c.header_of-header.ensures ∙
    header_of_block b _ c.in_ok-read_exactly.ensures.same (c.in_ok-read_exactly.ensures.reads.1 b (c.in-Ok.ensures.kept ∙ known)) in
    let broken = c.in_err-validate_header.field-0.0 in
    scans_rule b _ broken _
    (header_broken b c.in-Ok.len c.header_of-header.result
    (broken.rule, broken.at) says is c.in_ok-validate_length.ensures.fault c.in_ok-validate_ident.ensures
    c.in_err-validate_header.ensures.fault)
    c.from_residual-in_err-validate_header.ensures.1

pub returns-clause-known : goal.returns-clause-known
returns-clause-known g c b known = (
  known_length _ b c.in-Ok.len known c.in-Ok.ensures.length,
  c.header_of-header.ensures ∙
      header_of_block b _ c.in_ok-read_exactly.ensures.same (c.in_ok-read_exactly.ensures.reads.1 b (c.in-Ok.ensures.kept ∙ known)),
)
