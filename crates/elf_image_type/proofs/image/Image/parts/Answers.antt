use Rattle.std.proofs.Common.{◌≡◌, ◌∙◌, map, sym, subst}
use Rattle.elf_image_outline.specs.Image.{PlacedPart, AreParts}
use Rattle.elf_image_type.specs.ImageView.{view_of}
use Rattle.elf_image_outline.proofs.Edited.{parts-placed}
use Rattle.elf_image_outline.proofs.Standing.{are_parts}
use Rattle.elf_image_type.proofs.image.Image.parts.Goals as goal

pub returns-clause-value : goal.returns-clause-value
returns-clause-value c =
    rw (← c.self.view_is)
    (c.parts.ensures.value ∙ parts-placed c.self.inside.outline.zeroed c.self.inside.file.now c.self.inside.outline.parts)

pub returns-clause-parts : goal.returns-clause-parts
returns-clause-parts c =
    let v = view_of c.self.inside in
    let value : c.parts.result.now ≡ map (λ (p : PlacedPart). p.part) v.parts =
    c.parts.ensures.value ∙ parts-placed c.self.inside.outline.zeroed c.self.inside.file.now c.self.inside.outline.parts in
    rw (← c.self.view_is) (subst (AreParts v) (sym value) (are_parts v c.self.invariant))
