-- Lemmas on what the exit status of the program says, and on the arguments that both programs take.
pub mod AskedFile
pub mod Statuses
