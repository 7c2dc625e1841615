use Rattle.elf_image_outline.proofs.Edited.{image-zeroed, sound-with_zero_gaps}
use Rattle.elf_image_type.proofs.image.Image.zero_gaps.Goals as goal

pub invariant_of-self : goal.invariant_of-self
invariant_of-self c = rw (c.zero_gaps.ensures.value, image-zeroed) (sound-with_zero_gaps _ c.self.invariant)

pub returns : goal.returns
returns c = rw (← c.self.view_is, c.zero_gaps.ensures.value) (image-zeroed _ _ _)
