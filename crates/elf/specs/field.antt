-- The definitions of `elf_field`.
pub mod Types
pub use Rattle.elf_field.specs.Abi
pub use Rattle.elf_field.specs.Bytes
pub use Rattle.elf_field.specs.Entries
pub use Rattle.elf_field.specs.Headers
pub use Rattle.elf_field.specs.Record
pub use Rattle.elf_field.specs.Strings
pub use Rattle.elf_field.specs.laws
