-- The definitions that this crate's contracts use.
pub mod Left
pub mod Object
pub mod ObjectView
pub mod ObjectRules
pub mod Equality
pub mod laws
