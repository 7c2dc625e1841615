-- The laws of the internal crates below this public one, each under its name there.
pub use Rattle.elf_object_edit.proofs.Public.{whole_object}
pub use Rattle.elf_object_file.proofs.Public.{file_of, sound_object}
pub use Rattle.elf_object_reader.proofs.Public.{object_kept, one_object, some_object}
pub use Rattle.elf_object_type.proofs.Public.{object_fault, object_rules_kept, object_rules_unbroken}
pub use Rattle.elf_object_layout.proofs.Public.{one_layout, some_layout}
