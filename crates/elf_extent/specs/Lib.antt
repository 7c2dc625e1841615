pub mod Account
pub mod Extent
pub mod Place
