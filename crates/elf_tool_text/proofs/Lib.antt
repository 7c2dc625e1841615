-- `Public` is for the proofs of the crates above, the others are for those of this one.
pub mod PassedText
pub mod ShortText
pub mod TextLines
pub mod Public
