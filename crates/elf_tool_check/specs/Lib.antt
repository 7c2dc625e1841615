-- The definitions that this crate's contracts use.
pub mod Check
pub mod Ending
pub mod Engine
pub mod FileLines
