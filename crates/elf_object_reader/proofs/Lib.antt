-- `Public` is for the proofs of the crates above, the others are for those of this one.
pub mod FileRules
pub mod DenotedSymbols
pub mod NameTails
pub mod KeptTypes
pub mod ObjectKept
pub mod Public
