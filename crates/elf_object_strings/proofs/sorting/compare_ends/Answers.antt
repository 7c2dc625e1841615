use Rattle.std.proofs.Common.{◌≡◌, refl, ◌∙◌}
use Rattle.std.specs.Ordering.{nat_cmp}
use Rattle.std.proofs.lemmas.Iterator.Adapters.{YieldsList-from_rev_slice}
use Rattle.std.proofs.lemmas.Iterator.Search.{cmp_from_yields_List}
use Rattle.elf_object_strings.proofs.Numbering.{without_equal_ends}
use Rattle.elf_object_strings.proofs.sorting.compare_ends.Goals as goal

pub loop-less_left-preserved : goal.loop-less_left-preserved
loop-less_left-preserved c = without_equal_ends _ _ _ _ c.in-Some.ensures.ends ∙ c.loop-less_left.invariant

pub returns : goal.returns
returns c =
    cmp_from_yields_List (λ x y. y ≡ x) _ nat_cmp _ c.cmp.ensures.ran
    (YieldsList-from_rev_slice c.loop-less_left.left.now cc)
    (λ it e. YieldsList-from_rev_slice c.loop-less_left.right.now cc) (λ x y. refl)
    ∙ c.loop-less_left.invariant
