-- The laws of the internal crates below this public one, each under its name there.
pub use Rattle.elf_image_rules.proofs.Public.{fault_of_extents, one_fault, rules_kept, rules_unbroken}
pub use Rattle.elf_image_stream.proofs.Public.{one_failure}
pub use Rattle.elf_image_type.proofs.Public.{header_fields, image_is_sound, one_image, one_list, section_fields, segment_fields, some_image}
pub use Rattle.elf_image_type.proofs.Public.{sound_stands, stands_is_image}
