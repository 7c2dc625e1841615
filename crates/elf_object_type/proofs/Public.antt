-- What the proofs of the crates above may cite: what holds of an object that breaks none of its rules, as one fact for each
-- rule, as no section or symbol that breaks one, and as what its references name; that each value has a fault or none; what
-- holds of each element of a list; and which positions pass a test, and where each is among them.
pub use Rattle.elf_object_type.proofs.PartsOfObjects.{all_of_each, all_of_map, each_of_all, none_of_any, length_table_relocations}
pub use Rattle.elf_object_type.proofs.PartsOfObjects.{relocations_fit}
pub use Rattle.elf_object_type.proofs.KeepsObjectRules.{object_rules_kept, object_rules_unbroken, found_in_symbols, aligned, no_info}
pub use Rattle.elf_object_type.proofs.KeepsObjectRules.{no_link, zero_addend, no_misplaced_local, no_wrong_alignment, no_wrong_bits_type}
pub use Rattle.elf_object_type.proofs.KeepsObjectRules.{no_wrong_field, no_wrong_membership, no_wrong_place, no_wrong_position}
pub use Rattle.elf_object_type.proofs.KeepsObjectRules.{no_zero_in_section_name, no_zero_in_symbol_name, group_there, member_there}
pub use Rattle.elf_object_type.proofs.KeepsObjectRules.{place_there, references_there, relocations_there}
pub use Rattle.elf_object_type.proofs.ObjectDecided.{object_fault}
pub use Rattle.elf_object_type.proofs.Positions.{IsListed, StandsAt, cases_bool, listed, mapped_next, mapped_passed, one_place, passing}
pub use Rattle.elf_object_type.proofs.Positions.{passing_one, place, place_get, place_le, place_one, place_other, place_past}
pub use Rattle.elf_object_type.proofs.Positions.{places_ascend, range_more, stands_at, taken_next}
