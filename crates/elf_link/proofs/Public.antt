-- The laws of the internal crates below this public one, each under its name there.
pub use Rattle.elf_link_map.proofs.Public.{are_paged, one_link_fault, one_link_map, outputs_stand, parts_apart}
pub use Rattle.elf_link_relocate.proofs.Public.{any_options, field_in_content, memory_bytes, memory_in, memory_there, memory_zero, one_byte}
pub use Rattle.elf_link_relocate.proofs.Public.{ready_of, some_byte, without_entry}
