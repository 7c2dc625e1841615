use Rattle.std.proofs.Common.{◌≡◌, ◌<◌, ℕ, get_or}
use Rattle.elf_link_map.specs.LinkMap.{no_name}
use Rattle.elf_link_map.proofs.bindings.Names.search.Given as goal

-- none of the names so far is this one
abbrev pub invariant-loop-k : goal.invariant-loop-k
invariant-loop-k l = (j : ℕ) → j < l.k → (get_or l.self j no_name).0 ≡ l.name → ⊥
