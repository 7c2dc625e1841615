use Rattle.std.proofs.Common.{subst, sym}
use Rattle.elf_image_outline.specs.Image.{IsSoundImage}
use Rattle.elf_image_outline.specs.Outline.{outline_view, contents_in}
use Rattle.elf_image_outline.proofs.Edited.{image-zeroed, sound-with_zero_gaps}
use Rattle.elf_image_outline.proofs.outline.Outline.zero_gaps.Goals as goal

pub returns-clause-still : goal.returns-clause-still
returns-clause-still c b of =
    let o = outline_view c.self.inside in
    subst IsSoundImage (sym (image-zeroed o (contents_in o b) b)) (sound-with_zero_gaps _ (rw (← c.self.view_is) at of))
