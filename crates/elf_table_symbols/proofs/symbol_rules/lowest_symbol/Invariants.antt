use Rattle.std.proofs.Common.{ℕ, ◌<◌}
use Rattle.elf_table_symbols.specs.Symbols.{parts_value, BreaksSymbolEntry, entry}
use Rattle.elf_table_symbols.proofs.symbol_rules.lowest_symbol.Given as goal

abbrev pub invariant-loop-j : goal.invariant-loop-j
invariant-loop-j l = (k : ℕ) → k < l.j → BreaksSymbolEntry l.rule (parts_value l.parts) (entry l.parts.order l.parts.table.now k) k → ⊥
