-- The definitions that this crate's contracts use.
pub mod Definitions
pub mod Inputs
pub mod Link
pub mod Map
pub mod ObjectFiles
pub mod Places
pub mod Verdicts
