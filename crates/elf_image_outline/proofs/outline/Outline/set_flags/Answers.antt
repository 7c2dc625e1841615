use Rattle.std.proofs.Common.{arith}
use Rattle.elf_image_outline.specs.Outline.{outline_view}
use Rattle.elf_image_outline.proofs.Scanned.{blank-flagged, of-flagged}
use Rattle.elf_image_outline.proofs.outline.Outline.set_flags.Goals as goal

pub invariant_of-self : goal.invariant_of-self
invariant_of-self c =
    rw c.flag.ensures.flags
    (blank-flagged (outline_view c.self.inside) c.args.i c.args.flags c.self.invariant (omega arith) (omega arith) (omega arith))

pub returns-clause-still : goal.returns-clause-still
returns-clause-still c b of =
    rw c.flag.ensures.flags
    (of-flagged (outline_view c.self.inside) b c.args.i c.args.flags (rw (← c.self.view_is) at of) (omega arith) (omega arith)
    (omega arith))
