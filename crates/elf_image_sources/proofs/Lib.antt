-- The lemmas of this crate.
mod Changed
mod Lists
