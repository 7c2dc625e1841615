-- `Public` is for the proofs of the crates above, the others are for those of this one.
mod Collected
mod Patches
mod Grids
mod Sharing
mod Spots
mod Memories
mod MemoryLaws
mod Held
mod Neighbours
mod LoadSegments
pub mod Public
