use Rattle.std.proofs.Common.{ℕ, List, subst}
use Rattle.elf_image_outline.specs.Image.{joined}
use Rattle.elf_image_type.specs.ImageView.{LoadsFirst, view_of}
use Rattle.elf_image_outline.proofs.Theorem.{joined_is_image, one_list}
use Rattle.elf_image_type.proofs.image.Image.load.Goals as goal

pub returns-clause-loads : goal.returns-clause-loads
returns-clause-loads c =
    let v = view_of c.self.inside in
    let found = rw c.deref.ensures.value at c.load.ensures in
    rw (← c.self.view_is) (joined v, joined_is_image v c.self.invariant, found)

pub returns-clause-each : goal.returns-clause-each
returns-clause-each c =
    let v = view_of c.self.inside in
    let found = rw c.deref.ensures.value at c.load.ensures in
    rw (← c.self.view_is) (λ b is.
    subst (λ (x : List ℕ). LoadsFirst x v.segments c.args.address c.load.result)
    (one_list v (joined v) b (joined_is_image v c.self.invariant) is.stands) found)
