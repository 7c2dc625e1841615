-- The definitions that this crate's contracts use.
pub mod Laid
pub mod SectionsLeftOut
pub mod StringTables
