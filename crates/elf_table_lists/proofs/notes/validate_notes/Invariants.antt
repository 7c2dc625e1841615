use Rattle.std.proofs.Common.{◌-◌, length}
use Rattle.elf_table_lists.proofs.NoteLists.{AreValidated}
use Rattle.elf_table_lists.proofs.notes.validate_notes.Given as goal

abbrev pub invariant-loop-at : goal.invariant-loop-at
invariant-loop-at l = AreValidated l.order l.table l.at l.unclosed

abbrev pub decreases-loop-at : goal.decreases-loop-at
decreases-loop-at l = length l.table - l.at
