-- What the proofs of the crates above may cite: that there is one list of outputs; that each of them has a section, and what is in them is
-- live, and is there once; how many parts a plan has, and where those of each output begin; and what is said of all lists of a list.
pub use Rattle.elf_link_outputs.proofs.OutputLists.{one_outputs, members_live, outputs_some, placed_once, all_flat}
pub use Rattle.elf_link_outputs.proofs.Placings.{length-outputs, length-raised, parts_long, start_next, within_all}
