use Rattle.std.proofs.Common.{ℕ, ◌<◌}
use Rattle.elf_table_symbols.specs.Symbols.{IsWrongIndexWord, entry, word}
use Rattle.elf_table_symbols.proofs.symbol_rules.lowest_wrong_index_word.Given as goal

abbrev pub invariant-loop-j : goal.invariant-loop-j
invariant-loop-j l = (k : ℕ) → k < l.j →
    IsWrongIndexWord l.parts.sections (entry l.parts.order l.parts.table.now k) (word l.parts.order l.parts.words.now k) → ⊥
