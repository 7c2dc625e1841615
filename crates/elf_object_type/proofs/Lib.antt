-- `Public` is for the proofs of the crates above, the others are for those of this one.
pub mod KeepsObjectRules
pub mod ObjectDecided
pub mod Public
pub mod PartsOfObjects
pub mod Positions
