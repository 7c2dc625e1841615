-- What the proofs of the crates above may cite: that a name is bound or not, and to one thing, and each name with an entry is where rules 6
-- and 9 are not broken; that there is one list of chosen commons; and that a name without entries is bound to nothing.
pub use Rattle.elf_link_names.proofs.Binds.{bound_excludes, all_bound, one_choice, one_chosen, one_common}
pub use Rattle.elf_link_names.proofs.KnownNames.{entry_listed, entry_there, names_once, unbound}
