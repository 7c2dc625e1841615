use Rattle.std.proofs.Common.{◌≡◌, ℕ, None, Option, Some, ap, arith, false, not, ◌∙◌}
use Rattle.std.specs.Prelude.{SomeIff, is_some}
use Rattle.elf_image_rules.specs.Tables.{header, names, sections, segments}
use Rattle.elf_image_rules.proofs.Public.{records_kept}
use Rattle.elf_c.proofs.file.elfmap_file.Goals as goal

-- what is nowhere has no place
nowhere : (P : Type 0) (v : ℕ) (r : Option ℕ) → is_some r ≡ false → SomeIff r P v → P → ⊥
nowhere P v None none is_not = is_not
nowhere P v (Some x) none is = cc

pub returns-then-bytes-lt-EHDR_SIZE-clause-image : goal.returns-then-bytes-lt-EHDR_SIZE-clause-image
returns-then-bytes-lt-EHDR_SIZE-clause-image c kept =
    let b = c.args.bytes.now in
    let each = records_kept _ (header b) (sections b (header b)) (segments b (header b)) (names b (header b)) kept in
    let long = each.file_length.not_too_short in
    absurd (omega arith)

pub returns-then-is_none-clause-image : goal.returns-then-is_none-clause-image
returns-then-is_none-clause-image c kept =
    let b = c.args.bytes.now in
    let each = records_kept _ (header b) (sections b (header b)) (segments b (header b)) (names b (header b)) kept in
    let inside = each.header.first_section_header (rw (← c.header_of-header.ensures) c.if-header-ne0.true) in
    let none : is_some c.place_of.result ≡ false = c.is_none.ensures ∙ ap not c.if-is_none.true in
    absurd (nowhere _ _ c.place_of.result none c.place_of.ensures (rw c.header_of-header.ensures (omega arith)))
