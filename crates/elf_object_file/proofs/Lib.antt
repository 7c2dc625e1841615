-- `Public` is for the proofs of the crates above, the others are for those of this one.
pub mod ObjectFile
pub mod WrittenSections
pub mod WrittenFile
pub mod WrittenDenotes
pub mod WrittenTableRules
pub mod WrittenRules
pub mod Public
