use Rattle.std.proofs.Common.{◌≡◌}
use Rattle.elf_table_lists.specs.Notes.{note_offset}
use Rattle.elf_c.proofs.notes.offset_of_note.Given as goal

abbrev pub invariant-loop-k : goal.invariant-loop-k
invariant-loop-k l = l.at ≡ note_offset l.order l.content 0 l._k
