-- What the proofs of the crates above may cite: that a hash table which breaks no rule is one for the symbols that it links to, and their
-- names by the contents of their table and its strings.
pub use Rattle.elf_table_hash.proofs.HashSound.{hash_content, names_of_section, sound_hash_type, valid_in_section}
