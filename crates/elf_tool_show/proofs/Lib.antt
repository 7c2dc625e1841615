-- The lemmas of this crate: extents that share no byte are together no longer than what they lie in, and how long the text is at most.
mod Lengths
pub mod OneShow
mod ShortLines
mod ShortShow
