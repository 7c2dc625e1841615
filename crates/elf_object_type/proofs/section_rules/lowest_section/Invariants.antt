use Rattle.std.proofs.Common.{ℕ, ◌<◌}
use Rattle.elf_object_type.specs.Object.{section_at}
use Rattle.elf_object_type.specs.ObjectView.{value_of}
use Rattle.elf_object_type.specs.ObjectRules.{BreaksSection}
use Rattle.elf_object_type.proofs.section_rules.lowest_section.Given as goal

abbrev pub invariant-loop-i : goal.invariant-loop-i
invariant-loop-i l = let o = value_of l.parts in (k : ℕ) → k < l.i → BreaksSection l.rule o (section_at o k) → ⊥
