-- What the proofs of the crates above may cite: which of two sites comes first; how a list of sites grows, and that a row has one first
-- site, one list of its sites, and a list of rules one fault; what is said of each item of a list; that an object of a link is the one at
-- its file's index, and its symbols are in its sections; and that two values are one or not.
pub use Rattle.elf_link_files.proofs.SiteLists.{first_earlier, first_same, first_in_row, each_more, one_each, table_read, listed_file}
pub use Rattle.elf_link_files.proofs.SiteLists.{listed_more, listed_past, lists_more, lists_same, once_of, one_before, position_before}
pub use Rattle.elf_link_files.proofs.SiteLists.{site_is, one_first, one_found, one_site_list, earlier_more, earlier_next, file_before}
pub use Rattle.elf_link_files.proofs.SiteLists.{row_back, some_site}
pub use Rattle.elf_link_files.proofs.MarkedFiles.{object_is, symbol_placed, match_map, not_true, same_bool, same_name}
pub use Rattle.elf_link_files.proofs.KnownBefore.{first_here, known_none, known_other, known_reference, strong_entry, weak_entry}
