-- The definitions that this crate's contracts use.
pub mod LinkMap
pub mod Entry
pub mod Naming
pub mod Standing
