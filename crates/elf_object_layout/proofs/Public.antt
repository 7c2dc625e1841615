-- What the proofs of the crates above may cite: an object has one canonical layout, what its parts are and how long, and which
-- numbers of it are short; and which sections of a file an object does not keep.

-- the sections of a layout, by position
unfoldable pub use Rattle.elf_object_layout.proofs.PlainSections.{last_sections}
pub use Rattle.elf_object_layout.proofs.PlainSections.{last_count, length-plain, no_plain, own_below, plain_at, plain_last, plain_own}
pub use Rattle.elf_object_layout.proofs.PlainSections.{bits_in_file, index_table_found, names_found, own_found, strings_found}
pub use Rattle.elf_object_layout.proofs.PlainSections.{symbols_found}
pub use Rattle.elf_object_layout.proofs.PlainSections.{length-relas, length-relocations, length-rels, shared_names}
-- the layout, and what is short in one that fits a file
pub use Rattle.elf_object_layout.proofs.CanonicalLayout.{canonical_header, canonical_section_headers, contents_of, layout_order, one_layout}
pub use Rattle.elf_object_layout.proofs.CanonicalLayout.{some_layout}
pub use Rattle.elf_object_layout.proofs.CanonicalLayout.{length-canonical_section_headers, length-index_table_section, length-layout_parts}
pub use Rattle.elf_object_layout.proofs.CanonicalLayout.{length-places}
pub use Rattle.elf_object_layout.proofs.CanonicalLayout.{length-section_names, length-symbol_table_section, names_at_is, offsets_are}
pub use Rattle.elf_object_layout.proofs.CanonicalLayout.{place_read}
pub use Rattle.elf_object_layout.proofs.CanonicalLayout.{content_end, few_sections, few_symbols, short_content, short_names, short_strings}
pub use Rattle.elf_object_layout.proofs.CanonicalLayout.{table_end}
pub use Rattle.elf_object_layout.proofs.CanonicalLayout.{section_name_below, symbol_name_below}
-- the sections that an object does not keep
pub use Rattle.elf_object_layout.proofs.SectionsLeftOut.{and_true, first_found, first_missing, not_kept_past, symbol_table_there}
