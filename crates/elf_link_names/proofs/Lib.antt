-- `Public` is for the proofs of the crates above, the others are for those of this one.
pub mod Binds
pub mod ChosenCommons
pub mod Tables
pub mod KnownNames
pub mod SameNames
pub mod Public
