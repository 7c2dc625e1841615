-- The lemmas of this crate.
mod FileLinks
mod SaysSome
