use Rattle.std.proofs.Common.{sym, ◌∙◌}
use Rattle.elf_c.proofs.ReadEntries.{note_offset_after, note_offset_zero}
use Rattle.elf_c.proofs.notes.offset_of_note.Goals as goal

pub loop-k-init : goal.loop-k-init
loop-k-init c = sym (note_offset_zero c.args.order c.args.content.now 0)

pub loop-k-preserved : goal.loop-k-preserved
loop-k-preserved c = c.in_ok-at.ensures.1 ∙ note_offset_after c.args.order c.args.content.now c.loop-k.at c.loop-k._k c.loop-k.invariant
