-- What the proofs of the crates above may cite: the symbols of a table as a list, what a section's type says of the table in it and what
-- a table that breaks no rule links to, how the index tables are found in one pass, what is answered of rules that take memory, run by
-- run, and that the lowest number with a property is the offset of the first entry that has it.
pub use Rattle.elf_table_symbols.proofs.FileSections.{its_file, sections_of_bytes}
pub use Rattle.elf_table_symbols.proofs.IndexTableLemmas.{index_tables_noted, index_tables_passed, lowest_position}
pub use Rattle.elf_table_symbols.proofs.ValidatedLemmas.{tested_handed, tested_later, tested_stop, tested_told}
pub use Rattle.elf_table_symbols.proofs.SymbolLists.{link_there, length_symbols, sound_link, symbol_get, symbols_kind, type_of_group}
pub use Rattle.elf_table_symbols.proofs.SymbolLists.{type_of_hash}
