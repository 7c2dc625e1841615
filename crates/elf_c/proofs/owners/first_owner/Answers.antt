-- No owner before the next one has the offset; and the last of them is that of the last section header that lies in the file.
use Rattle.std.proofs.Common.{◌≡◌, ℕ, arith, inl, inr, subst}
use Rattle.elf_c.specs.Owners.{OwnsOffset}
use Rattle.elf_c.proofs.owners.first_owner.Goals as goal

pub loop-owner-preserved : goal.loop-owner-preserved
loop-owner-preserved c = λ k has.
    let below = c.loop-owner.invariant k has in
    let other : k ≡ c.loop-owner.owner → ⊥ =
    λ same. (let true_test =
    c.has_offset.ensures.1 (subst (λ (m : ℕ). OwnsOffset c.args.file.now c.args.bytes.now c.args.offset m) same has.1) in
    let false_test = c.if-has_offset.false in cc) in
    omega (arith, below, other)

pub returns : goal.returns
returns c = λ x has.
    let below = c.loop-owner.invariant x has in
    elim has.1 [
      | inl (is, inside) ↦ omega (arith, below, is)
      | inr (inl (is, inside)) ↦ omega (arith, below, is)
      | inr (inr (inl (is, inside))) ↦ omega (arith, below, is)
      | inr (inr (inr (past, (some, (listed, lies), inside)))) ↦ omega (arith, below, past, listed, lies, c.min-end.ensures)
    ]
