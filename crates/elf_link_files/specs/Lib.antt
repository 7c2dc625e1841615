-- The definitions that this crate's contracts use.
pub mod Files
pub mod Rows
pub mod Discarded
pub mod KnownBefore
pub mod FileRules
pub mod FileNames
pub mod SameNames
