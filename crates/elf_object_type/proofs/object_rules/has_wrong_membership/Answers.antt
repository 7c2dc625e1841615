-- A member that the marks or its section forbid is wrong (`wrong_member_found`), and then the result is true. Each other member is not
-- wrong (`member_passes`), and is marked (`marked_next`). After the last member the group counts as an earlier one (`marked_group`).
use Rattle.std.proofs.Common.{◌≡◌, ◌<◌, inl, inr, List, length, refl, ap, sym, ◌∙◌, subst, arith}
use Rattle.std.proofs.lemmas.Bool.{cases_lt}
use Rattle.elf_object_type.specs.ObjectRules.{IsWrongMembership}
use Rattle.elf_object_type.specs.Object.{SectionValue, section_at, members_of}
use Rattle.elf_object_type.specs.ObjectView.{body_value, value_of}
use Rattle.elf_object_type.specs.declared.parts.Body.{Body}
use Rattle.elf_object_type.proofs.KeepsObjectRules.{marked_anew, marked_group, marked_next, member_passes, wrong_member_found}
use Rattle.elf_object_type.proofs.object_rules.has_wrong_membership.Goals as goal

pub returns-then-is_wrong_membership-clause-wrong : goal.returns-then-is_wrong_membership-clause-wrong
returns-then-is_wrong_membership-clause-wrong c =
    let o = value_of c.args.parts.now in
    let members = c.deref-member-items.result.now in
    let j = c.loop-member.member-index in
    let body = ap (λ (b : Body). members_of (body_value b)) c.in-Group.is in
    let section = ap (λ (s : SectionValue). members_of s.body) c.section_at.ensures in
    let same : members ≡ members_of (section_at o c.args.i).body = c.deref-member-items.ensures.value ∙ sym body ∙ section in
    let wrong : IsWrongMembership o c.args.i members j =
    wrong_member_found o c.args.i members j c.loop-member.marks.items c.loop-member.invariant.marked
    (c.is_wrong_membership.ensures.wrong.0 c.if-is_wrong_membership.true) in (
      (λ is. (
        j,
        subst (λ (ms : List _). j < length ms) same c.loop-member-test.true,
        subst (λ (ms : List _). IsWrongMembership o c.args.i ms j) same wrong,
      )),
      (λ has. refl),
    )

pub loop-member-init : goal.loop-member-init
loop-member-init c = record {
  marked = marked_anew (value_of c.args.parts.now) c.args.i _ c.deref-member-items.result.now c.args.marks.now.items c.requires.marked;
  never = λ k lt wrong. absurd (omega arith);
}

pub loop-member-preserved : goal.loop-member-preserved
loop-member-preserved c =
    let o = value_of c.args.parts.now in
    let members = c.deref-member-items.result.now in
    let j = c.loop-member.member-index in
    let there = rw c.if-is_wrong_membership.false at c.is_wrong_membership.ensures.there in
    record {
      marked = marked_next o c.args.i members j c.loop-member.marks.items c.loop-member.invariant.marked there;
      never = λ k lt wrong. elim (cases_lt k j) [
        | inl below ↦ c.loop-member.invariant.never k below wrong
        | inr above ↦ (
            let last : k ≡ j = omega arith in
            let forbids = rw c.if-is_wrong_membership.false at c.is_wrong_membership.ensures.wrong.1 in
            member_passes o c.args.i members j c.loop-member.marks.items c.loop-member.invariant.marked there
            (λ cannot. (let no = forbids cannot in cc)) (subst (λ i. IsWrongMembership o c.args.i members i) last wrong))
      ];
    }

pub returns-clause-marked : goal.returns-clause-marked
returns-clause-marked c =
    let o = value_of c.args.parts.now in
    let members = c.deref-member-items.result.now in
    let body = ap (λ (b : Body). members_of (body_value b)) c.in-Group.is in
    let section = ap (λ (s : SectionValue). members_of s.body) c.section_at.ensures in
    let same : members_of (section_at o c.args.i).body ≡ members = sym (c.deref-member-items.ensures.value ∙ sym body ∙ section) in
    let end : c.loop-member.member-index ≡ length members = omega arith in
    marked_group o c.args.i members c.loop-member.marks.items same (rw end at c.loop-member.invariant.marked)
