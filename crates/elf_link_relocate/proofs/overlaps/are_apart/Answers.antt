-- The fields of neighbours are in order up to the loop, and of a pair that is not both fields have one byte.
use Rattle.std.proofs.Common.{◌≡◌, ◌∙◌, ℕ, ◌+◌, ◌-◌, arith, inl, inr, subst, sym}
use Rattle.std.proofs.lemmas.Bool.{cases_lt, true≢false}
use Rattle.elf_link_relocate.proofs.Neighbours.{apart_of, field_of, shared_of}
use Rattle.elf_link_relocate.specs.Passes.{StandsAfter}
use Rattle.elf_link_relocate.proofs.overlaps.are_apart.Goals as goal

pub returns-clause-apart : goal.returns-clause-apart
returns-clause-apart c _ =
    let end = c.loop-i-test.false in
    apart_of c.args.fields.now c.args.spots.now c.requires.spots (λ k lt. c.loop-i.invariant k (omega arith))

pub loop-i-preserved : goal.loop-i-preserved
loop-i-preserved c k lt = elim (cases_lt (k + 1) c.loop-i.i) [
  | inl before ↦ c.loop-i.invariant k before
  | inr last ↦ (
      let at = field_of c.args.fields.now c.args.spots.now in
      let some = c.loop-i.auto.i in
      let this : c.loop-i.i - 1 ≡ k = omega arith in
      let next : c.loop-i.i ≡ k + 1 = omega arith in
      let after : StandsAfter (at (c.loop-i.i - 1)) (at c.loop-i.i) = c.is_after.ensures.0 c.if-not-is_after.false in
      subst (λ (j : ℕ). StandsAfter (at j) (at (k + 1))) this (subst (λ (j : ℕ). StandsAfter (at (c.loop-i.i - 1)) (at j)) next after))
]

pub returns-then-not-is_after-clause-shared : goal.returns-then-not-is_after-clause-shared
returns-then-not-is_after-clause-shared c _ =
    let at = field_of c.args.fields.now c.args.spots.now in
    let i = c.loop-i.i in
    let some = c.loop-i.auto.i in
    let next : i - 1 + 1 ≡ i = omega arith in
    shared_of c.args.fields.now c.args.spots.now c.requires.spots c.requires.sorted (i - 1) (omega (arith, next, c.loop-i-test.true))
    (λ after. true≢false
    (sym (c.is_after.ensures.1 (subst (λ (j : ℕ). StandsAfter (at (i - 1)) (at j)) next after)) ∙ c.if-not-is_after.true))
