use Rattle.elf_object_strings.proofs.Numbering.{numbered_permuted}
use Rattle.elf_object_strings.proofs.sorting.sorted_names.Goals as goal

pub sort_by_ends-requires : goal.sort_by_ends-requires
sort_by_ends-requires c = rw c.names.ensures at c.in_ok-number_names.ensures.ends

pub returns-clause-numbered : goal.returns-clause-numbered
returns-clause-numbered c =
    numbered_permuted _ _ _ c.sort_by_ends.ensures.permutation (rw c.names.ensures at c.in_ok-number_names.ensures.numbered)
