pub mod Abi
pub mod Bytes
pub mod Entries
pub mod Headers
pub mod Record
pub mod Strings
pub mod laws
