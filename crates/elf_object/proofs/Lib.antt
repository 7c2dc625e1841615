-- What the proofs of those who stand on this public crate may cite.
pub mod Public
