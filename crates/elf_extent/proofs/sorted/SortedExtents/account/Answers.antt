use Rattle.std.proofs.Common.{sym, subst}
use Rattle.elf_extent.specs.Account.{Accounts}
use Rattle.elf_extent.proofs.AccountLemmas.{walk_pushed, walk_ends}
use Rattle.elf_extent.proofs.sorted.SortedExtents.account.Goals as goal

pub loop-member-preserved : goal.loop-member-preserved
loop-member-preserved c =
    walk_pushed c.args.self.now c.args.total c.members-member-items.result.now c.loop-member.member-index c.loop-member.at
    c.loop-member.pieces.items _ _ _ c.requires.disjoint c.requires.within c.members-member-items.ensures.members
    c.members-member-items.ensures.ascending
    c.loop-member-test.true c.loop-member.invariant
    c.in_ok-push_gap.ensures c.in_ok-push_piece.ensures

pub returns : goal.returns
returns c =
    subst (Accounts c.args.self.now c.args.total 0) (sym c.in_ok-push_gap-2.ensures)
    (walk_ends c.args.self.now c.args.total c.members-member-items.result.now c.loop-member.member-index c.loop-member.at
    c.loop-member.pieces.items c.members-member-items.ensures.members c.loop-member-test.false c.loop-member.invariant)
