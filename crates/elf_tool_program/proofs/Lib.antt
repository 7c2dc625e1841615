-- Lemmas on the files that the program opens, and on what a scan answers.
pub mod Sources
