use Rattle.std.proofs.Common.{◌≡◌, ◌<◌, ℕ}
use Rattle.elf_link_names.specs.Resolution.{name_in}
use Rattle.elf_link_names.proofs.resolution.Resolution.search.Given as goal

-- none of the names so far is this one
abbrev pub invariant-loop-k : goal.invariant-loop-k
invariant-loop-k l = (j : ℕ) → j < l.k → name_in l.self j ≡ l.name → ⊥
