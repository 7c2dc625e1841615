-- The definitions of `elf_table`.
pub use Rattle.elf_table.specs.ChainDepths
pub use Rattle.elf_table.specs.Dynamic
pub use Rattle.elf_table.specs.Groups
pub use Rattle.elf_table.specs.HashRules
pub use Rattle.elf_table.specs.HashTable
pub use Rattle.elf_table.specs.HashView
pub use Rattle.elf_table.specs.Left
pub use Rattle.elf_table.specs.Notes
pub use Rattle.elf_table.specs.Relocations
pub use Rattle.elf_table.specs.Sections
pub use Rattle.elf_table.specs.SymbolView
pub use Rattle.elf_table.specs.Symbols
pub use Rattle.elf_table.specs.Tables
pub use Rattle.elf_table.specs.Verdicts
pub use Rattle.elf_table.specs.Types
