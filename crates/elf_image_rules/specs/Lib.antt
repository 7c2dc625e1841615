pub mod Rows
pub mod Tables
pub mod Rules
pub mod KeepsRules
pub mod ValidatedRecords
