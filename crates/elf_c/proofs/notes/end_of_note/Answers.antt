use Rattle.std.proofs.Common.{arith}
use Rattle.elf_c.proofs.ReadEntries.{note_end_above}
use Rattle.elf_c.proofs.notes.end_of_note.Goals.{then-offset-len-via-then-offset-len}
use Rattle.elf_c.proofs.notes.end_of_note.Goals.{then-offset-len-via-else-offset-len+then-len-offset-lt-NHDR_SIZE}
use Rattle.elf_c.proofs.notes.end_of_note.Goals as goal

pub returns-then-offset-len : goal.returns-then-offset-len
returns-then-offset-len c ends =
    let above = note_end_above c.args.order c.args.content.now c.args.offset in
    elim c.then-offset-len.branch [
      | then-offset-len-via-then-offset-len w ↦ (let past = w.if-offset-len.true in omega arith)
      | then-offset-len-via-else-offset-len+then-len-offset-lt-NHDR_SIZE w ↦ (let past = w.if-len-offset-lt-NHDR_SIZE.true in omega arith)
    ]
