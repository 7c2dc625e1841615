-- `Public` is for the proofs of the crates above, the others are for those of this one.
pub mod Placings
pub mod Grouped
pub mod Numbers
pub mod OutputLists
pub mod Public
