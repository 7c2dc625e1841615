use Rattle.std.proofs.Common.{ℕ, ◌≤◌}
use Rattle.elf_c.specs.Owners.{OwnsOffsetFrom}
use Rattle.elf_c.proofs.owners.first_owner.Given as goal

-- no owner before has the offset
abbrev pub invariant-loop-owner : goal.invariant-loop-owner
invariant-loop-owner l = (k : ℕ) → OwnsOffsetFrom l.file l.bytes l.offset l.first k → l.owner ≤ k
