-- `Public` is for the proofs of the crates above, the others are for those of this one.
mod EntryLists
mod GroupMarks
mod NoteLists
pub mod Public
