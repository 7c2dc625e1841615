-- The definitions that this crate's contracts use.
pub mod Outputs
pub mod Placed
pub mod Addresses
pub mod Views
