use Rattle.std.proofs.Common.{ℕ, ◌<◌}
use Rattle.elf_table_lists.specs.Dynamic.{dynamic_entry, IsDynamicStringPastEnd}
use Rattle.elf_table_lists.proofs.dynamic.lowest_dynamic_string_past_end.Given as goal

abbrev pub invariant-loop-j : goal.invariant-loop-j
invariant-loop-j l = (k : ℕ) → k < l.j → IsDynamicStringPastEnd l.size (dynamic_entry l.order l.table k) → ⊥
