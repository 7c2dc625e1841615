-- Lemmas of these tests.
mod Outputs
