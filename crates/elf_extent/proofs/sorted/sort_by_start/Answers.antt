use Rattle.std.proofs.Common.{rules, IsTrue, OnOk, Result, Ok, Err, is_ok}
use Rattle.std.proofs.lemmas.List.Sorted.{IsNonDecreasingBy-from_sort_by_key}
use Rattle.elf_extent.specs.declared.sorted.Member.{Member}
use Rattle.elf_extent.proofs.sorted.sort_by_start.Goals as goal

-- what holds of an answer that is `Ok`
at_ok : {A E P : Type 0} (r : Result A E) → IsTrue (is_ok r) → OnOk r P → P
at_ok (Ok x) true fact = fact
at_ok (Err e) true fact = absurd (search rules)

pub returns-then-is_ok-clause-ascending : goal.returns-then-is_ok-clause-ascending
returns-then-is_ok-clause-ascending c =
    IsNonDecreasingBy-from_sort_by_key (λ (m : Member). m.extent.start) _
    (at_ok c.sort_by_key.result (search rules) c.sort_by_key.ensures.sorted) (λ a r q k. search rules)

pub returns-clause-ascending : goal.returns-clause-ascending
returns-clause-ascending c =
    IsNonDecreasingBy-from_sort_by_key (λ (m : Member). m.extent.start) _
    c.sort_unstable_by_key.ensures.sorted (λ a r q k. search rules)
