-- The definitions that this crate's contracts use.
pub mod CheckSource
pub mod Program
