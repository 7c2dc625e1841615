use Rattle.std.proofs.Common.{[], subst, sym, true}
use Rattle.elf_image_outline.specs.Outline.{blank_image, outline_view}
use Rattle.elf_image_outline.specs.Image.{AreParts}
use Rattle.elf_image_outline.proofs.Edited.{parts-placed}
use Rattle.elf_image_outline.proofs.Standing.{are_parts}
use Rattle.elf_image_outline.proofs.outline.Outline.parts.Goals as goal

pub returns-clause-parts : goal.returns-clause-parts
returns-clause-parts c =
    let o = outline_view c.self.inside in
    rw (← c.self.view_is, c.deref.ensures.value)
    (subst (AreParts (blank_image o)) (sym (parts-placed true [] o.parts)) (are_parts (blank_image o) c.self.invariant))
