-- The definitions that this crate's contracts use.
pub mod Sections
pub mod Slots
pub mod Symbols
pub mod Verdicts
pub mod SymbolView
