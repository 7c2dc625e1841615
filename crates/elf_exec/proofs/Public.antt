-- What the proofs of those who build on this crate may cite: the laws of src/laws.rt, each under its name there; what each segment is; and
-- whose each byte is of parts at their places.
pub use Rattle.elf_exec.proofs.ExecLaws.{executable, one_exec, some_exec}
pub use Rattle.elf_exec.proofs.ExecText.{IsInPart, IsPartByte, byte_of_spread}
pub use Rattle.elf_link_relocate.proofs.Public.{load_of, load_some}
