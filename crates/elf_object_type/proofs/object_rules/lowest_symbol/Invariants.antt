use Rattle.std.proofs.Common.{ℕ, ◌<◌}
use Rattle.elf_object_type.specs.Object.{symbol_at}
use Rattle.elf_object_type.specs.ObjectView.{value_of}
use Rattle.elf_object_type.specs.ObjectRules.{BreaksSymbol}
use Rattle.elf_object_type.proofs.object_rules.lowest_symbol.Given as goal

abbrev pub invariant-loop-i : goal.invariant-loop-i
invariant-loop-i l = let o = value_of l.parts in (k : ℕ) → k < l.i → BreaksSymbol l.rule o (symbol_at o k) → ⊥
