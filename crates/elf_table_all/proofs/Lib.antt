-- `Public` is for the proofs of the crates above, the others are for those of this one.
mod Alone
mod TableLinks
pub mod Public
