-- The definitions that this crate's contracts use.
pub mod Retain
pub mod Without
