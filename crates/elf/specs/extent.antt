-- The definitions of `elf_extent`.
pub mod Types
pub use Rattle.elf_extent.specs.Account
pub use Rattle.elf_extent.specs.Extent
pub use Rattle.elf_extent.specs.Place
