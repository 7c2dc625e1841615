-- For the proofs of this crate.
pub mod Again
pub mod OneRewrite
pub mod Within
