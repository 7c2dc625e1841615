-- The definitions that this crate's contracts use.
pub mod Faults
pub mod Output
pub mod Reading
pub mod Source
