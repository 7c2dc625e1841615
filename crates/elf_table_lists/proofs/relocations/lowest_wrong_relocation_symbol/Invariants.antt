use Rattle.std.proofs.Common.{ℕ, ◌<◌, ◌≤◌}
use Rattle.elf_table_lists.specs.Relocations.{relocation_in}
use Rattle.elf_table_lists.proofs.relocations.lowest_wrong_relocation_symbol.Given as goal

abbrev pub invariant-loop-j : goal.invariant-loop-j
invariant-loop-j l = (k : ℕ) → k < l.j → l.symbols ≤ (relocation_in l.addends l.order l.table k).symbol → ⊥
