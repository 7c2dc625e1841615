-- `Public` is for the proofs of the crates above, the others are for those of this one.
pub mod OneMap
pub mod Plans
pub mod Standing
pub mod Paged
pub mod SomeLinkMap
pub mod Public
