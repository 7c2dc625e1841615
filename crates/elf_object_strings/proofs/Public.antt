-- What the proofs of the crates above may cite: the laws of src/laws.rt, under their names there, and what is known of ends.
pub use Rattle.elf_object_strings.proofs.Names.{shares_tails, holds_names}
pub use Rattle.elf_object_strings.proofs.Ends.{tails_none, tails_of_table}
