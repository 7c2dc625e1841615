-- The lemmas of this crate. `Public` is for the proofs of the crates above, the others are for those of this one.
mod Sources
pub mod Public
mod Written
