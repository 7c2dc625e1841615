-- The definitions of `elf_exec`.
pub mod Types
pub use Rattle.elf_exec.specs.ExecWriting
pub use Rattle.elf_exec.specs.Executable
pub use Rattle.elf_exec.specs.Loads
pub use Rattle.elf_exec.specs.Pages
