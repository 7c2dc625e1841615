-- The definitions that this crate's contracts use.
pub mod Executable
pub mod ExecWriting
pub mod Pages
pub use Rattle.elf_link_relocate.specs.Loads
