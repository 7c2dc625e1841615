-- The definitions that this crate's contracts use.
pub mod Fields
pub mod Views
pub mod Linked
pub mod Passes
pub mod Loads
