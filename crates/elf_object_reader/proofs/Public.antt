-- What the proofs of the crates above may cite: a file denotes one object, which breaks no rule where the file breaks none; how
-- its sections and symbols are found; and that a table's bytes denote its relocations.
pub use Rattle.elf_object_reader.proofs.KeptTypes.{denoted_with, section_with}
pub use Rattle.elf_object_reader.proofs.DenotedSymbols.{relocations_denoted, halves, same_symbol}
pub use Rattle.elf_object_reader.proofs.ObjectKept.{object_kept, one_object, some_object}
pub use Rattle.elf_object_reader.proofs.FileRules.{symbols_kept}
