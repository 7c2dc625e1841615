-- What the proofs of the crates above may cite: the laws of src/laws.rt, each under its name there, and when relocated
-- bytes are ready to be written.
pub use Rattle.elf_link_relocate.proofs.Memories.{any_options, without_entry, one_byte}
pub use Rattle.elf_link_relocate.proofs.MemoryLaws.{field_in_content, memory_bytes, memory_in, memory_there, memory_zero, some_byte}
pub use Rattle.elf_link_relocate.proofs.MemoryLaws.{ready_of, some_linked}
pub use Rattle.elf_link_relocate.proofs.LoadSegments.{load_of, load_there, load_some, load_stands, loads_apart, at_commons, at_output}
pub use Rattle.elf_link_relocate.proofs.LoadSegments.{commons_ascend, commons_end, commons_some, LoadStands}
