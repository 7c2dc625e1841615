-- The first group that has a wrong member breaks rule 6 at the lowest position, because no lower group has one. Each group without a wrong
-- member leaves right marks for the next. If the loop ends, no group has one.
use Rattle.std.proofs.Common.{◌≡◌, length, refl, inl, inr, subst, arith, rules, vec_len}
use Rattle.std.proofs.lemmas.Bool.{cases_lt}
use Rattle.std.proofs.lemmas.List.{length-map}
use Rattle.elf_object_type.specs.ObjectRules.{HasWrongMembership}
use Rattle.elf_object_type.specs.ObjectView.{section_value, value_of}
use Rattle.elf_object_type.proofs.object_rules.lowest_wrong_membership.Goals as goal

pub returns-then-has_wrong_membership : goal.returns-then-has_wrong_membership
returns-then-has_wrong_membership c =
    let items = c.args.parts.now.sections.items in
    let wide : length items ≡ vec_len c.args.parts.now.sections = search rules in
    record {
      holds = (
        c.loop-i.i,
        omega (arith, length-map items section_value),
        c.has_wrong_membership.ensures.wrong.0 c.if-has_wrong_membership.true,
        refl,
      );
      lowest = λ y (i, within, broken, here). elim (cases_lt i c.loop-i.i) [
        | inl below ↦ absurd (c.loop-i.invariant.never i below broken)
        | inr above ↦ omega arith
      ];
    }

pub loop-i-preserved : goal.loop-i-preserved
loop-i-preserved c = record {
  marked = rw c.if-has_wrong_membership.false at c.has_wrong_membership.ensures.marked;
  never = λ k lt wrong. elim (cases_lt k c.loop-i.i) [
    | inl below ↦ c.loop-i.invariant.never k below wrong
    | inr above ↦ (
        let last : k ≡ c.loop-i.i = omega arith in
        let has = rw c.if-has_wrong_membership.false at c.has_wrong_membership.ensures.wrong.1 in
        let no = has (subst (λ i. HasWrongMembership (value_of c.args.parts.now) i) last wrong) in
        absurd (cc))
  ];
}

pub returns : goal.returns
returns c = λ x (i, within, broken, here).
    (let items = c.args.parts.now.sections.items in
    let wide : length items ≡ vec_len c.args.parts.now.sections = search rules in
    c.loop-i.invariant.never i (omega (arith, length-map items section_value)) broken)
