-- The definitions that this program's contracts use.
pub mod Debug
