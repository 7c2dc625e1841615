-- What the proofs of the crates above may cite: the laws of src/laws.rt, each under its name there, that a member lies in its output, and
-- that
-- there is a list that has what is said of each position.
pub use Rattle.elf_link_map.proofs.Standing.{parts_apart, member_within, outputs_stand}
pub use Rattle.elf_link_map.proofs.Plans.{one_link_fault, some_each, some_link_fault}
pub use Rattle.elf_link_map.proofs.OneMap.{one_link_map}
pub use Rattle.elf_link_map.proofs.Paged.{are_paged}
pub use Rattle.elf_link_map.proofs.SomeLinkMap.{some_link_map}
