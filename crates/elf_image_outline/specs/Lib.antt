-- The definitions that this crate's contracts use.
pub mod Records
pub mod Outline
pub mod Image
pub mod Scanning
