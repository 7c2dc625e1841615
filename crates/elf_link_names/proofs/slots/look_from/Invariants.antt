use Rattle.elf_link_names.specs.Tables.{AreSlotsTaken, IsInNone}
use Rattle.elf_link_names.proofs.slots.look_from.Given as goal

-- the slots so far are taken, and none of them is the name's
abbrev pub invariant-loop-step : goal.invariant-loop-step
invariant-loop-step l = record {
  taken : AreSlotsTaken l.slots l.home l.step;
  none : IsInNone l.slots l.entries l.home l.upper l.name l.step;
}
