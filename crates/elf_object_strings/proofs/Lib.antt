-- `Public` is for the proofs of the crates above, the others are for those of this one.
mod Names
mod Written
mod Numbering
mod Ends
mod EndsOrder
mod EqualNames
mod LeaderOrder
mod CommonEnd
mod Reach
pub mod Public
