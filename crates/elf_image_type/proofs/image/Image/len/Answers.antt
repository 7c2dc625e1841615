use Rattle.elf_image_type.specs.ImageView.{view_of}
use Rattle.elf_image_outline.proofs.Edited.{len_short}
use Rattle.elf_image_type.proofs.image.Image.len.Goals as goal

pub returns-clause-short : goal.returns-clause-short
returns-clause-short c = rw c.len.ensures.value (len_short (view_of c.self.inside) c.self.invariant)
