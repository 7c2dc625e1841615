-- The definitions in the contracts of the library, as `elf` shows its calls.
pub mod field
pub mod extent
pub mod image
pub mod table
pub mod object
pub mod link
pub mod exec
pub mod tool
