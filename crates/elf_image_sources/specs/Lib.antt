-- The definitions that this crate's contracts use.
pub mod Joined
pub mod Patched
