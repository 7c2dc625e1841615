-- The laws of the internal crates below this public one, each under its name there.
pub use Rattle.elf_image_rules.proofs.Public.{one_fault}
pub use Rattle.elf_table_all.proofs.Public.{dynamic_in_file, rel_in_file, rela_in_file, sections_of_bytes, symbol_in_file, word_in_file}
pub use Rattle.elf_table_lists.proofs.Public.{length_members, length_relocations, member_get, no_note_entry, note_entry, note_in_file}
pub use Rattle.elf_table_lists.proofs.Public.{relocation_get}
pub use Rattle.elf_table_symbols.proofs.Public.{length_symbols, symbol_get}
