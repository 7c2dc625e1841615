use Rattle.std.proofs.Common.{ℕ, ◌<◌}
use Rattle.elf_link_field.specs.declared.rule.RelocRule.{RelocRule}
use Rattle.elf_link_field.specs.Field.{IsOfKind}
use Rattle.elf_link_field.proofs.rule.rule_of.Given as goal

abbrev pub invariant-loop-rule : goal.invariant-loop-rule
invariant-loop-rule l = (j : ℕ) (other : RelocRule) → j < l.rule-index → IsOfKind l.kind l.rules j other → ⊥
