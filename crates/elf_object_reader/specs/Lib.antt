-- The definitions that this crate's contracts use.
pub mod Denotes
pub mod FileRules
pub mod NameEnds
