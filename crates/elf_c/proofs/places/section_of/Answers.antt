use Rattle.std.proofs.Common.{◌<◌, None, Option, Some, arith, refl, subst, sym}
use Rattle.std.specs.Prelude.{SomeIff}
use Rattle.elf_field.specs.declared.shdr.Shdr.{Shdr}
use Rattle.elf_table_symbols.specs.Sections.{count, section, sections_in}
use Rattle.elf_c.proofs.ReadFiles.{found_listed}
use Rattle.elf_c.proofs.places.section_of.Goals as goal

pub returns-then-index-file-clause-listed : goal.returns-then-index-file-clause-listed
returns-then-index-file-clause-listed c is =
    found_listed c.args.file.now c.args.bytes.now c.args.index None is
    (λ has. (let below = has.0 in let past = c.if-index-file.true in absurd (omega arith)))

pub returns-in_err-offset-clause-listed : goal.returns-in_err-offset-clause-listed
returns-in_err-offset-clause-listed c is =
    let f = sections_in c.args.bytes.now in
    subst (λ (r : Option Shdr). SomeIff r (c.args.index < count f) (section f c.args.index)) (sym c.from_residual.ensures)
    (found_listed c.args.file.now c.args.bytes.now c.args.index None is (λ has. c.in_err-offset.ensures has.1))

pub returns-clause-listed : goal.returns-clause-listed
returns-clause-listed c is =
    found_listed c.args.file.now c.args.bytes.now c.args.index (Some c.get_at.result) is
    ((c.if-index-file.false, c.in_ok-offset.ensures.0), rw (c.get_at.ensures.value, c.order_of.ensures, c.in_ok-offset.ensures.1) refl)
