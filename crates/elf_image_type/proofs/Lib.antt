-- `Public` is for the proofs of the crates above, the others are for those of this one.
mod BytesParsed
mod BytesScanned
mod ImageLemmas
mod FileParts
pub mod Public
mod RelocatableFile
