use Rattle.std.proofs.Common.{ℕ, ◌<◌}
use Rattle.elf_link_files.specs.Files.{object_at}
use Rattle.elf_link_files.specs.FileRules.{BreaksSiteTest, counted}
use Rattle.elf_link_files.proofs.inputs.Inputs.first_site.Given as goal

abbrev pub invariant-loop-file : goal.invariant-loop-file
invariant-loop-file l = (e k : ℕ) → e < l.file → k < counted l.test (object_at l.self e) → BreaksSiteTest l.self l.test e k → ⊥
