-- Lemmas on tables of records, for the proofs of the crates above.
pub mod RecordTableLaws
