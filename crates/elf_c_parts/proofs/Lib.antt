-- The lemmas of this crate.
mod Slots
