-- `Public` is for the proofs of the crates above, the others are for those of this one.
mod AccountLemmas
pub mod Public
mod ExtentLists
mod PlaceLemmas
