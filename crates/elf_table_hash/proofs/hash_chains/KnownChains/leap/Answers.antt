use Rattle.std.proofs.Common.{◌≢◌, [], ◌∷◌, get_or, ap, refl, arith}
use Rattle.elf_table_hash.proofs.Chains.{next_depth, zero_depth}
use Rattle.elf_table_hash.proofs.hash_chains.KnownChains.leap.Goals as goal

pub returns-clause-leads : goal.returns-clause-leads
returns-clause-leads c =
    let none = zero_depth _ _ _ c.prove_known.ensures.depths in
    let above = c.requires.above in
    let some : c.args.s ≢ 0 = λ is. (let depth = ap (λ k. get_or c.args.self.now.depth k 0) is in omega arith) in
    rw c.at-here.ensures.next (c.args.s ∷ [], (some, refl, refl))

pub returns-clause-nearer : goal.returns-clause-nearer
returns-clause-nearer c =
    let above = c.requires.above in
    let less = next_depth _ _ _ c.args.s c.prove_known.ensures.depths (omega arith) in
    rw c.at-here.ensures.next (omega arith)

pub returns-clause-above : goal.returns-clause-above
returns-clause-above c =
    let above = c.requires.above in
    let less = next_depth _ _ _ c.args.s c.prove_known.ensures.depths (omega arith) in
    rw c.at-here.ensures.next (omega arith)
