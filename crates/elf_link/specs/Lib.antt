-- The definitions in the contracts that this public crate shows, for the contracts of those who build on it.
pub mod Types
pub use Rattle.elf_link_field.specs.Field
pub use Rattle.elf_link_files.specs.Rows
pub use Rattle.elf_link_files.specs.Files
pub use Rattle.elf_link_files.specs.FileRules
pub use Rattle.elf_link_files.specs.KnownBefore
pub use Rattle.elf_link_map.specs.Standing
pub use Rattle.elf_link_map.specs.Entry
pub use Rattle.elf_link_map.specs.LinkMap
pub use Rattle.elf_link_names.specs.Binds
pub use Rattle.elf_link_names.specs.Resolution
pub use Rattle.elf_link_outputs.specs.Addresses
pub use Rattle.elf_link_outputs.specs.Outputs
pub use Rattle.elf_link_outputs.specs.Placed
pub use Rattle.elf_link_relocate.specs.Fields
pub use Rattle.elf_link_relocate.specs.Linked
pub use Rattle.elf_link_relocate.specs.Views
