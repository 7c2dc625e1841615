use Rattle.std.proofs.Common.{◌≡◌, ◌≤◌, ◌<◌, ◌+◌, ℕ, length}
use Rattle.elf_table_symbols.specs.Sections.{sections_of}
use Rattle.elf_c_engines.specs.Tables.{HasTableFault, slot_at}
use Rattle.elf_c_engines.proofs.tables.put_faults.Given as goal

-- the slots so far are filled in, and those after them are as they were
abbrev pub invariant-loop-k : goal.invariant-loop-k
invariant-loop-k l = record {
  long : length l.faults ≡ length l.initial.faults;
  right : (j : ℕ) → j < l.k → HasTableFault (sections_of l.tables.image) (l.first + j) (slot_at l.faults j);
  others : (j : ℕ) → l.k ≤ j → slot_at l.faults j ≡ slot_at l.initial.faults j;
}
