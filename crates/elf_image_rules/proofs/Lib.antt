-- `Public` is for the proofs of the crates above, the others are for those of this one.
mod Clean
mod ImageRules
mod KeepsRules
pub mod Public
