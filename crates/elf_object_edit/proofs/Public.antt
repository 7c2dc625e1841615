-- What the proofs of the crates above may cite: an object of which nothing is left out is itself.
pub use Rattle.elf_object_edit.proofs.NothingLeftOut.{whole_object}
