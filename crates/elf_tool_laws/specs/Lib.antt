-- The definitions that this crate's contracts use.
pub mod Agree
pub mod Alike
pub mod LeftOut
pub mod Order
