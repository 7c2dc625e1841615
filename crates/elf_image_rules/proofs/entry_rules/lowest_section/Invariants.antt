use Rattle.std.proofs.Common.{◌≡◌, ℕ, ◌<◌, ◌≤◌}
use Rattle.elf_image_rules.specs.Rules.{BreaksSectionHeader}
use Rattle.elf_image_rules.proofs.entry_rules.lowest_section.Given as goal

-- no section so far breaks the rule
abbrev pub invariant-loop-i : goal.invariant-loop-i
invariant-loop-i g l =
    (k : ℕ) → 1 ≤ k → k < l.i → ((g.T.Records.sections l.records k).sh_type ≡ 0 → ⊥) →
    BreaksSectionHeader l.rule (g.T.Records.sections l.records k) → ⊥
