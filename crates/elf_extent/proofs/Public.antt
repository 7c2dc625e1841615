-- What the proofs of the crates above may cite: the laws of src/laws.rt, each under its name there, and the lemmas by
-- which accounts, least places and lowest offsets are put together, and what is held doubly does not depend on an order.
pub use Rattle.elf_extent.proofs.AccountLemmas.{AccountsBelow, gap_cases, member_end, member_piece, member_start, walk_begins, walk_ends}
pub use Rattle.elf_extent.proofs.AccountLemmas.{walk_on, walk_pushed, IsPiece, accounts_le, in_piece, one_account, piece_at, piece_for}
pub use Rattle.elf_extent.proofs.AccountLemmas.{pieces_ascend, some_account}
pub use Rattle.elf_extent.proofs.ExtentLists.{held_nonempty, lowest_held, lowest_moved, lowest_sorted, nonempty_sorted, IsLowest-lower}
pub use Rattle.elf_extent.proofs.ExtentLists.{IsLowest-same, one_lowest, ascending_extents, members_more, members_none, members_permuted}
pub use Rattle.elf_extent.proofs.ExtentLists.{members_skip, disjoint_from_never, never_from_disjoint}
pub use Rattle.elf_extent.proofs.PlaceLemmas.{above_earlier, above_from, fits_length, same_least, least_cons, least_nil, least_places}
