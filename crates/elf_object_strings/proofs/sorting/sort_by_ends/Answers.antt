use Rattle.std.proofs.Common.{rules}
use Rattle.std.specs.Ordering.{is_lt}
use Rattle.std.proofs.lemmas.Fn.{always_returns_same}
use Rattle.std.proofs.lemmas.List.Sorted.{All-permutation, ranks_by}
use Rattle.elf_object_strings.specs.Sorting.{HasEnd, numbered_order}
use Rattle.elf_object_strings.proofs.Numbering.{numbered_in_order, numbered_total}
use Rattle.elf_object_strings.proofs.sorting.sort_by_ends.Goals as goal

pub returns-clause-ends : goal.returns-clause-ends
returns-clause-ends c = All-permutation (HasEnd c.args.list.now) _ _ c.sort_unstable_by.ensures.permutation c.requires

pub returns-clause-order : goal.returns-clause-order
returns-clause-order c =
    let list = c.args.list.now in
    numbered_in_order list _ (returns-clause-ends c)
    (c.sort_unstable_by.ensures.sorted (λ a b. is_lt (numbered_order list a b)) (ranks_by (numbered_total list) (λ it. it))
    (always_returns_same _ _ _ (λ a r q k. search rules)))
