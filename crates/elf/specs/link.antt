-- The definitions of `elf_link`.
pub use Rattle.elf_link.specs.Addresses
pub use Rattle.elf_link.specs.Binds
pub use Rattle.elf_link.specs.Entry
pub use Rattle.elf_link.specs.Field
pub use Rattle.elf_link.specs.Fields
pub use Rattle.elf_link.specs.FileRules
pub use Rattle.elf_link.specs.Files
pub use Rattle.elf_link.specs.KnownBefore
pub use Rattle.elf_link.specs.LinkMap
pub use Rattle.elf_link.specs.Linked
pub use Rattle.elf_link.specs.Outputs
pub use Rattle.elf_link.specs.Placed
pub use Rattle.elf_link.specs.Resolution
pub use Rattle.elf_link.specs.Rows
pub use Rattle.elf_link.specs.Standing
pub use Rattle.elf_link.specs.Views
pub use Rattle.elf_link.specs.Types
