use Rattle.elf_extent.proofs.AccountLemmas.{AccountsBelow}
use Rattle.elf_extent.proofs.sorted.SortedExtents.account.Given as goal

-- the pieces account for what lies below at
abbrev pub invariant-loop-member : goal.invariant-loop-member
invariant-loop-member l =
    AccountsBelow l.self l.total l.member-items l.member-index l.at l.pieces.items
