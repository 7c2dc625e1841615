-- What the proofs of the crates above may cite: the laws of src/laws.rt, the rules that a section's type asks for, and that the verdict on
-- a
-- table that breaks no rule is none.
pub use Rattle.elf_table_all.proofs.TableLinks.{kind_asked, dynamic_in_file, rel_in_file, rela_in_file, symbol_in_file, word_in_file}
pub use Rattle.elf_table_all.proofs.TableLinks.{none_kept}
pub use Rattle.elf_table_symbols.proofs.Public.{sections_of_bytes}
