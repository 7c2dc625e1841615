use Rattle.std.proofs.Common.{ℕ, ◌<◌}
use Rattle.elf_table_lists.specs.Dynamic.{IsNullEntry, dynamic_entry}
use Rattle.elf_table_lists.proofs.dynamic.first_null_entry.Given as goal

abbrev pub invariant-loop-j : goal.invariant-loop-j
invariant-loop-j l = (k : ℕ) → k < l.j → IsNullEntry (dynamic_entry l.order l.table k) → ⊥
