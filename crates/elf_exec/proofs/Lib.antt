-- What the proofs of those who build on this crate may cite.
pub mod Public
mod ExecText
mod ExecLaws
-- That its segments give memory's bytes, and that its pages do.
mod ExecMemory
mod PageLaws
-- That it is an image, and loads the memory of the link.
mod ExecFile
