-- What the proofs of those who build on this public crate may cite.
pub mod Public
