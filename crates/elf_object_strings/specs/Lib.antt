-- The definitions that this crate's contracts use.
pub mod StringTable
pub mod Sorting
pub mod Leaders
