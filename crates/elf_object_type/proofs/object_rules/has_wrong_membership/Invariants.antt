use Rattle.std.proofs.Common.{ℕ, ◌<◌}
use Rattle.elf_object_type.specs.ObjectRules.{AreMembershipMarks, IsWrongMembership}
use Rattle.elf_object_type.specs.ObjectView.{value_of}
use Rattle.elf_object_type.proofs.object_rules.has_wrong_membership.Given as goal

-- the members so far are marked, and none of them is wrong
abbrev pub invariant-loop-member : goal.invariant-loop-member
invariant-loop-member l =
    let o = value_of l.parts in
    record {
      marked : AreMembershipMarks o l.i l.member-items l.member-index l.marks.items;
      never : (k : ℕ) → k < l.member-index → IsWrongMembership o l.i l.member-items k → ⊥;
    }
