-- Lemmas on objects read one after the other, on lines and texts of the items of a list, on what is refused, on how much is written of
-- few files, and on the positions of sections.
mod FewFiles
mod FileSizes
mod InputFiles
mod LinkRefusals
mod MapLines
mod MapPrints
mod MapRefusals
pub mod OneInput
pub mod OneLink
pub mod OneMap
mod Positions
