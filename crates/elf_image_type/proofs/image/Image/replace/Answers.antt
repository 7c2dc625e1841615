use Rattle.std.proofs.Common.{arith, refl, rules}
use Rattle.std.proofs.lemmas.List.{map-set}
use Rattle.elf_image_outline.specs.Image.{IsReplaceable}
use Rattle.elf_image_type.specs.ImageView.{view_of}
use Rattle.elf_image_outline.proofs.Edited.{sound-replaced}
use Rattle.elf_image_type.proofs.image.Image.replace.Goals as goal

pub invariant_of-self : goal.invariant_of-self
invariant_of-self c =
    let able : IsReplaceable (view_of c.self.inside) c.args.i c.args.content.now = rw c.self.view_is c.in_ok-check_replaceable.ensures in
    rw map-set (sound-replaced _ c.args.i c.args.content.now c.self.invariant able (λ k. omega (arith, c.type_inv.content k)))

pub returns-clause-ok : goal.returns-clause-ok
returns-clause-ok c = (c.in_ok-check_replaceable.ensures, rw (← c.self.view_is, map-set) refl)

pub returns-in_err-check_replaceable-clause-err : goal.returns-in_err-check_replaceable-clause-err
returns-in_err-check_replaceable-clause-err c = search rules
