use Rattle.std.proofs.Common.{ℕ, ◌≤◌}
use Rattle.elf_c.specs.Names.{IsNamed}
use Rattle.elf_c.proofs.names.first_named.Given as goal

-- no section before has the name
abbrev pub invariant-loop-index : goal.invariant-loop-index
invariant-loop-index l = (k : ℕ) → IsNamed l.file l.bytes l.name k → l.index ≤ k
