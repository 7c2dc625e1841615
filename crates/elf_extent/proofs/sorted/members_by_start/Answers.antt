use Rattle.std.proofs.lemmas.List.Sorted.{IsPermutation-map}
use Rattle.elf_extent.specs.declared.extent.Extent.{Extent}
use Rattle.elf_extent.specs.declared.sorted.Member.{Member}
use Rattle.elf_extent.proofs.ExtentLists.{members_permuted}
use Rattle.elf_extent.proofs.sorted.members_by_start.Goals as goal

pub returns-clause-members : goal.returns-clause-members
returns-clause-members c =
    members_permuted _ _ _ _ c.sort_by_start.ensures.permutation c.in_ok-members.ensures.members

pub returns-clause-held : goal.returns-clause-held
returns-clause-held c =
    let extent : Member → Extent = λ m. m.extent in
    rw c.in_ok-members.ensures.held at (IsPermutation-map extent _ _ c.sort_by_start.ensures.permutation)
