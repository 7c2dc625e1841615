use Rattle.std.proofs.Common.{◌≡◌, ◌++◌, ℕ, List, length}
use Rattle.elf_tool_rule_file.specs.RuleFile.{AreRules}
use Rattle.elf_tool_rule_file.proofs.file.read_rules.Given as goal

-- what is before the rest are the lines of the rules that there are
abbrev pub invariant-loop-rest : goal.invariant-loop-rest
invariant-loop-rest l = (before : List ℕ) × AreRules before l.rules.items × (l.bytes ≡ before ++ l.rest)

abbrev pub decreases-loop-rest : goal.decreases-loop-rest
decreases-loop-rest l = length l.rest
