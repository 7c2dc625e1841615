use Rattle.std.proofs.Common.{refl}
use Rattle.elf_table_lists.specs.Notes.{note_section_rules, notes_of}
use Rattle.elf_table_lists.proofs.NoteLists.{sound_notes}
use Rattle.elf_table_lists.proofs.notes.sound_notes.Goals as goal

pub invariant_of-result : goal.invariant_of-result
unfolding note_section_rules
invariant_of-result c = rw (c.order.ensures, c.content.ensures.bytes) (sound_notes _ _ _ c.requires.sound.1)

pub returns : goal.returns
unfolding notes_of
returns c = rw (c.order.ensures, c.content.ensures.bytes) refl
