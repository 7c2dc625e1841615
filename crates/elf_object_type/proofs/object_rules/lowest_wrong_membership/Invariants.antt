use Rattle.std.proofs.Common.{ℕ, ◌<◌, []}
use Rattle.elf_object_type.specs.ObjectRules.{AreMembershipMarks, HasWrongMembership}
use Rattle.elf_object_type.specs.ObjectView.{value_of}
use Rattle.elf_object_type.proofs.object_rules.lowest_wrong_membership.Given as goal

-- the members of the groups so far are marked, and none of them is wrong
abbrev pub invariant-loop-i : goal.invariant-loop-i
invariant-loop-i l =
    let o = value_of l.parts in
    record {
      marked : AreMembershipMarks o l.i [] 0 l.marks.items;
      never : (k : ℕ) → k < l.i → HasWrongMembership o k → ⊥;
    }
