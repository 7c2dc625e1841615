-- The definitions that this crate's contracts use.
pub mod Relocations
pub mod Left
pub mod Dynamic
pub mod Groups
pub mod Notes
