-- The structs and enums of `elf_exec`, as clauses name them.
pub use Rattle.elf_exec.specs.declared.exec_writing.ExecFault
