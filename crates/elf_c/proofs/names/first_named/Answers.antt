-- No section before the next one has the name; and the last of them is the last one whose header lies in the file.
use Rattle.std.proofs.Common.{◌≡◌, ℕ, arith, subst}
use Rattle.elf_c.specs.Names.{IsNamed}
use Rattle.elf_c.proofs.names.first_named.Goals as goal

pub loop-index-preserved : goal.loop-index-preserved
loop-index-preserved c = λ k has.
    let below = c.loop-index.invariant k has in
    let other : k ≡ c.loop-index.index → ⊥ =
    λ same. (let true_test =
    c.is_named.ensures.1 (subst (λ (m : ℕ). IsNamed c.args.file.now c.args.bytes.now c.args.name.now m) same has) in
    let false_test = c.if-is_named.false in cc) in
    omega (arith, below, other)

pub returns : goal.returns
returns c = λ x has.
    let below = c.loop-index.invariant x has in
    let (listed, lies) = has.0.0 in
    omega (arith, below, listed, lies, c.min-index-end.ensures)
