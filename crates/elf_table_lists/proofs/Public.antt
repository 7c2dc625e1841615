-- What the proofs of the crates above may cite: the entries of these tables as lists, what is known of a group that breaks no rule, and
-- where the notes are in a file.
pub use Rattle.elf_table_lists.proofs.EntryLists.{length_members, member_get, sound_group, length_relocations, relocation_get}
pub use Rattle.elf_table_lists.proofs.NoteLists.{note_in_file, no_note_entry, note_entry}
