-- The lemmas of this crate's proofs.
pub mod Going
pub mod HeaderTables
