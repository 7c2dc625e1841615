-- The lemmas of this crate.
pub mod EngineCalls
pub mod LineInARow
pub mod SaysOne
pub mod Asked
