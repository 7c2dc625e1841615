-- The definitions that this crate's contracts use.
pub mod Buffered
pub mod Line
