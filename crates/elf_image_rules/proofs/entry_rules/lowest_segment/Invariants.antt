use Rattle.std.proofs.Common.{ℕ, ◌<◌}
use Rattle.elf_image_rules.specs.Rules.{BreaksSegment}
use Rattle.elf_image_rules.proofs.entry_rules.lowest_segment.Given as goal

-- no segment so far breaks the rule
abbrev pub invariant-loop-i : goal.invariant-loop-i
invariant-loop-i g l = (k : ℕ) → k < l.i → BreaksSegment l.rule (g.T.Records.segments l.records k) → ⊥
