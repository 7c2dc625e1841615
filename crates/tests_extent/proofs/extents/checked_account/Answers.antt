use Rattle.std.proofs.Common.{◌+◌, ◌≤◌, rules, subst}
use Rattle.std.proofs.lemmas.Option.{get_or_from_slice_get, slice_get_within}
use Rattle.elf_extent.specs.declared.extent.Extent.{Extent}
use Rattle.tests_extent.proofs.extents.checked_account.Goals as goal

pub account-requires-clause-within : goal.account-requires-clause-within
account-requires-clause-within c = λ i e here nonempty.
    let es = c.args.extents.now in
    subst (λ (f : Extent). f.start + f.len ≤ c.args.total) (get_or_from_slice_get es i e e here)
    (c.if-not-all_within.ensures.0 (search rules) i e (slice_get_within es i e here))
