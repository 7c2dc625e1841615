-- What the proofs of the crates above may cite: the laws of src/laws.rt, each under its name there, and the lemmas by
-- which bytes are read as records and contents, and are shown to break no rule.
pub use Rattle.elf_image_type.proofs.ImageLemmas.{header_fields, section_fields, segment_fields, one_image, owner_from, some_image}
pub use Rattle.elf_image_type.proofs.FileParts.{written_accepted, written_is_bytes, written_read, in_spread, length-spread}
pub use Rattle.elf_image_type.proofs.FileParts.{length-unaligned, parts_ascend}
pub use Rattle.elf_image_outline.proofs.Standing.{are_parts, contents_read, element_made, header_read, sections_read, segments_read}
pub use Rattle.elf_image_type.proofs.RelocatableFile.{IsBytes-all, IsBytes-identification, identification_kept, order_identified}
pub use Rattle.elf_image_type.proofs.RelocatableFile.{length-relocatable_bytes, length-relocatable_file, relocatable_accepted}
pub use Rattle.elf_image_type.proofs.RelocatableFile.{relocatable_is_bytes, relocatable_names, relocatable_read}
pub use Rattle.elf_image_outline.proofs.Theorem.{HasTablesOf, Reads, clean_bytes, has_tables_of, image_is_sound, of_its_bytes, one_list}
pub use Rattle.elf_image_outline.proofs.Theorem.{sound_stands, stands_is_image}
