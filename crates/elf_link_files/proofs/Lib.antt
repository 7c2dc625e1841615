-- `Public` is for the proofs of the crates above, the others are for those of this one.
pub mod MarkedFiles
pub mod SiteLists
pub mod KnownBefore
mod RepeatedSignatures
mod NumberedEnds
mod SameNames
pub mod Public
