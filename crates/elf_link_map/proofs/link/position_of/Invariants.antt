use Rattle.std.proofs.Common.{ℕ, ◌<◌}
use Rattle.elf_link_map.specs.Entry.{HasSite}
use Rattle.elf_link_map.proofs.link.position_of.Given as goal

abbrev pub invariant-loop-k : goal.invariant-loop-k
invariant-loop-k l = (j : ℕ) → j < l.k → HasSite l.sites l.file l.section j → ⊥
