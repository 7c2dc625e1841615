use Rattle.std.proofs.Common.{arith}
use Rattle.elf_image_outline.proofs.Edited.{sound-with_entry}
use Rattle.elf_image_outline.proofs.outline.Outline.set_entry.Goals as goal

pub invariant_of-self : goal.invariant_of-self
invariant_of-self c = sound-with_entry _ c.args.entry c.self.invariant (omega arith)

pub returns-clause-still : goal.returns-clause-still
returns-clause-still c b of = sound-with_entry _ c.args.entry (rw (← c.self.view_is) at of) (omega arith)
