-- The lemmas of this crate.
pub mod EntriesOut
mod InMemory
mod RecordsOfSource
pub mod Scanned
pub mod Edited
pub mod Standing
pub mod Theorem
pub mod PartsOut
