-- What the proofs of the crates above may cite: that the canonical layout of an object is its file, and the object that a file denotes
-- keeps the rules and fits its fields.
pub use Rattle.elf_object_file.proofs.ObjectFile.{sound_object, file_of}
