use Rattle.std.proofs.Common.{arith, ◌<◌, ◌^◌, ℕ, List, subst, sym}
use Rattle.elf_field.specs.Record.{width_of}
use Rattle.elf_c.proofs.NotePlaces.{width_of_note}
use Rattle.elf_c.proofs.note_places.note_field.Goals as goal

pub field_in-requires-clause-short : goal.field_in-requires-clause-short
field_in-requires-clause-short c =
    let width = width_of_note c.args.order c.args.content.now c.args.at in
    let long = c.type_inv.content in
    subst (λ (ws : List ℕ). width_of ws < 2 ^ 64) (sym c.note_widths-widths.ensures) (omega arith)

pub field_in-requires-clause-inside : goal.field_in-requires-clause-inside
field_in-requires-clause-inside c =
    let width = width_of_note c.args.order c.args.content.now c.args.at in
    subst (λ (ws : List ℕ). c.args.inner < width_of ws) (sym c.note_widths-widths.ensures) (omega (arith, width, c.requires.inside))
