-- `Public` is for the proofs of the crates above, the others are for those of this one.
mod Edited
mod Ends
mod NothingLeftOut
mod Retained
pub mod Public
