use Rattle.std.proofs.Common.{List, ℕ, subst}
use Rattle.elf_image_outline.specs.Image.{ImageValue, IsImage, joined}
use Rattle.elf_image_outline.proofs.Theorem.{joined_is_image}
use Rattle.elf_image_type.proofs.image.Image.prove_stands.Goals as goal

pub returns : goal.returns
returns c = let Stands : ImageValue → Type 0 = λ v. (b : List ℕ) × IsImage v b in
    subst Stands c.self.view_is (joined _, joined_is_image _ c.self.invariant)
