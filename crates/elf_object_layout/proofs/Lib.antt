-- `Public` is for the proofs of the crates above, the others are for those of this one.
mod CanonicalLayout
mod SectionsLeftOut
mod PlainSections
mod NameEnds
pub mod Public
