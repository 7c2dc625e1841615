use Rattle.std.proofs.Common.{arith}
use Rattle.elf_image_outline.proofs.Edited.{sound-flagged}
use Rattle.elf_image_type.proofs.image.Image.set_flags.Goals as goal

pub invariant_of-self : goal.invariant_of-self
invariant_of-self c =
    sound-flagged c.set_flags.result c.self.inside.outline c.set_flags.new.self _ _ c.args.i c.args.flags c.set_flags.ensures.ok
    c.set_flags.ensures.err (omega arith) c.self.invariant
