-- The definitions that this crate's contracts use.
pub mod ImageView
pub mod Parsing
pub mod WrittenFile
