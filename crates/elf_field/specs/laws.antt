-- Lemmas that contracts name, or that such a lemma uses: the toolchain lets no file of `specs/` name one of `proofs/`. No definition is
-- here, and who reads what is promised can pass over them.
pub mod Bytes
pub mod Entries
pub mod Headers
pub mod Record
