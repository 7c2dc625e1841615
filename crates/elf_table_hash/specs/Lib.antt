-- The definitions that this crate's contracts use.
pub mod HashTable
pub mod ChainDepths
pub mod HashRules
pub mod HashView
pub mod NameHashes
