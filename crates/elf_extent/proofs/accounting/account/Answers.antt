use Rattle.elf_extent.proofs.accounting.account.Goals as goal

pub account-requires-clause-disjoint : goal.account-requires-clause-disjoint
account-requires-clause-disjoint c = rw c.in_ok-new.ensures c.requires.disjoint
