-- Lemmas on the arguments of the command line.
pub mod WordLists
