use Rattle.std.proofs.Common.{◌-◌, ◌<◌, ◌≤◌, length}
use Rattle.elf_link_relocate.specs.Passes.{HasShared}
use Rattle.elf_link_relocate.proofs.overlaps.first_sharer.Given as goal

abbrev pub invariant-loop-shared : goal.invariant-loop-shared
invariant-loop-shared l = record {
  order : l.apart < l.shared;
  within : l.shared ≤ length l.fields;
  none : HasShared l.fields l.apart → ⊥;
  some : HasShared l.fields l.shared;
}

abbrev pub decreases-loop-shared : goal.decreases-loop-shared
decreases-loop-shared l = l.shared - l.apart
