-- What the proofs of the crates above may cite: the laws of src/laws.rt, each under its name there, the laws of lists of
-- rules, what is known of a file and of a value that break no rule, that equal entries have equal faults, and that what a test
-- of numbers doesn't find broken is kept.
pub use Rattle.elf_image_rules.proofs.Clean.{clean_records, content_some, extents_disjoint, extents_within, name_table_below, sections_none}
pub use Rattle.elf_image_rules.proofs.Clean.{sections_read_at, sections_there, sound_file, sound_tables, table_some, content_extent_at}
pub use Rattle.elf_image_rules.proofs.Clean.{length-extents, kept_sections, kept_segments, kept_short, Agree, same_clean, same_entries}
pub use Rattle.elf_image_rules.proofs.Clean.{same_rules}
pub use Rattle.elf_image_rules.proofs.KeepsRules.{above, at_most, equal, is_alignment, records_kept, records_unbroken, rules_kept}
pub use Rattle.elf_image_rules.proofs.KeepsRules.{rules_unbroken}
pub use Rattle.elf_image_rules.proofs.ImageRules.{fault_of_extents, fault_of_records, from_entries, from_header, from_ident, from_length}
pub use Rattle.elf_image_rules.proofs.ImageRules.{from_program_table, from_section_table, from_tables, overlap_alone, record_rules_of}
pub use Rattle.elf_image_rules.proofs.ImageRules.{table_rules_of, AreSame, AreSame-append, AreSame-refl, FirstIn-after, FirstIn-front}
pub use Rattle.elf_image_rules.proofs.ImageRules.{FirstIn-handed, FirstIn-later, FirstIn-rest, FirstIn-same, FirstIn-sooner, FirstIn-stop}
pub use Rattle.elf_image_rules.proofs.ImageRules.{one_fault, one_fault_by, HasFirst, least_or_never, some_fault, some_first}
