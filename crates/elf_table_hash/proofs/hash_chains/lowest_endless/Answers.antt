-- The result is the lowest bucket whose chain does not end, because the chains of lower buckets are known and so end (`known_ends`). If the
-- walk found a bucket's chain endless, it is this one. Otherwise the chain is known afterwards.
use Rattle.std.proofs.Common.{◌≡◌, ◌∙◌, inl, inr, arith}
use Rattle.std.proofs.lemmas.Bool.{cases_lt}
use Rattle.elf_table_hash.proofs.Chains.{known_ends, known_kept}
use Rattle.elf_table_hash.proofs.hash_chains.lowest_endless.Goals as goal

pub loop-b-preserved : goal.loop-b-preserved
loop-b-preserved c =
    let was = c.loop-b.invariant in
    record {
      lists = c.settle.ensures.lists;
      known = λ k lt. elim (cases_lt k c.loop-b.b) [
        | inl below ↦ known_kept _ _ _ c.settle.ensures.kept (was.known k below)
        | inr above ↦ (let same : k ≡ c.loop-b.b = omega arith in rw same (rw c.bucket-start.ensures at c.settle.ensures.start))
      ];
      long = c.climb_from.ensures.long ∙ was.long;
    }

pub returns-in_default-clause-lowest : goal.returns-in_default-clause-lowest
returns-in_default-clause-lowest c =
    let was = c.loop-b.invariant in
    let endless = rw (c.in_default.is, c.bucket-start.ensures) at c.climb_from.ensures.endless in
    let within = rw c.nbucket-b-end.ensures at c.loop-b-test.true in
    record {
      holds = (within, endless);
      lowest = λ k here. elim (cases_lt k c.loop-b.b) [
        | inl below ↦ absurd (here.1 (known_ends _ _ _ _ was.lists.depths (was.known k below)))
        | inr above ↦ above
      ];
    }

pub returns-clause-lowest : goal.returns-clause-lowest
returns-clause-lowest c =
    let was = c.loop-b.invariant in
    let past = rw c.nbucket-b-end.ensures at c.loop-b-test.false in
    λ k here. (let lt = here.0 in here.1 (known_ends _ _ _ _ was.lists.depths (was.known k (omega arith))))
