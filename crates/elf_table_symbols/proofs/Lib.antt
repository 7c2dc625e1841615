-- `Public` is for the proofs of the crates above, the others are for those of this one.
mod FileSections
mod ValidatedSections
mod IndexTableLemmas
mod ValidatedLemmas
mod SymbolLists
pub mod Public
