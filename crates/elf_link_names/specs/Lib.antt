-- The definitions that this crate's contracts use.
pub mod Binds
pub mod Resolution
pub mod KnownNames
pub mod Tables
pub mod LongSymbols
