use Rattle.std.proofs.Common.{arith}
use Rattle.elf_image_outline.proofs.Edited.{sound-with_entry}
use Rattle.elf_image_type.proofs.image.Image.set_entry.Goals as goal

pub invariant_of-self : goal.invariant_of-self
invariant_of-self c = rw c.set_entry.ensures.value (sound-with_entry _ c.args.entry c.self.invariant (omega arith))
