use Rattle.std.proofs.Common.{◌<◌, rules}
use Rattle.std.proofs.lemmas.List.Sorted.{All-permutation, IsNonDecreasingBy-from_sort_by_key, IsPermutation-map}
use Rattle.elf_extent.specs.declared.extent.Extent.{Extent}
use Rattle.elf_c_parts.specs.declared.room.Slot.{Slot}
use Rattle.elf_c_parts.specs.Slots.{extent_in}
use Rattle.elf_extent.proofs.Public.{lowest_moved}
use Rattle.elf_c_parts.proofs.Slots.{ascending_slots}
use Rattle.elf_c_parts.proofs.room.lowest_double.Goals as goal

pub sweep-requires-clause-ascending : goal.sweep-requires-clause-ascending
sweep-requires-clause-ascending c =
    ascending_slots _
    (IsNonDecreasingBy-from_sort_by_key (λ (s : Slot). s.start) _ c.sort_unstable_by_key.ensures.sorted (λ a r q k. search rules))

pub sweep-requires-clause-nonempty : goal.sweep-requires-clause-nonempty
sweep-requires-clause-nonempty c =
    All-permutation (λ (e : Extent). 0 < e.len) _ _ (IsPermutation-map extent_in _ _ c.sort_unstable_by_key.ensures.permutation) c.requires

pub returns : goal.returns
returns c =
    lowest_moved _ _ _ (IsPermutation-map extent_in _ _ c.sort_unstable_by_key.ensures.permutation) c.sweep.ensures.lowest
