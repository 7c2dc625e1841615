-- The definitions in the contracts that this public crate shows, for the contracts of those who build on it.
pub mod Types
pub use Rattle.elf_table_all.specs.Tables
pub use Rattle.elf_table_symbols.specs.Verdicts
pub use Rattle.elf_table_symbols.specs.Sections
pub use Rattle.elf_table_hash.specs.ChainDepths
pub use Rattle.elf_table_hash.specs.HashTable
pub use Rattle.elf_table_hash.specs.HashView
pub use Rattle.elf_table_hash.specs.HashRules
pub use Rattle.elf_table_lists.specs.Dynamic
pub use Rattle.elf_table_lists.specs.Left
pub use Rattle.elf_table_lists.specs.Groups
pub use Rattle.elf_table_lists.specs.Notes
pub use Rattle.elf_table_lists.specs.Relocations
pub use Rattle.elf_table_symbols.specs.Symbols
pub use Rattle.elf_table_symbols.specs.SymbolView
