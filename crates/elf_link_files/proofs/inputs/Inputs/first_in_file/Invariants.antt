use Rattle.std.proofs.Common.{ℕ, ◌<◌}
use Rattle.elf_link_files.specs.FileRules.{BreaksSiteTest}
use Rattle.elf_link_files.proofs.inputs.Inputs.first_in_file.Given as goal

abbrev pub invariant-loop-index : goal.invariant-loop-index
invariant-loop-index l = (k : ℕ) → k < l.index → BreaksSiteTest l.self l.test l.file k → ⊥
