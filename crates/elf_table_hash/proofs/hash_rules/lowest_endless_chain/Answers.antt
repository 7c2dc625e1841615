-- Offsets rise with the buckets, so the first bucket whose chain does not end has the lowest offset.
use Rattle.std.proofs.Common.{ℕ, refl, arith}
use Rattle.elf_extent.specs.Extent.{IsLeast, Never}
use Rattle.elf_table_symbols.specs.Sections.{Below}
use Rattle.elf_table_hash.specs.HashTable.{Ends, bucket, chain, nbucket}
use Rattle.elf_table_hash.specs.HashRules.{HashPartsValue, hash_parts_value, bucket_at, endless_chain}
use Rattle.elf_table_hash.proofs.hash_rules.lowest_endless_chain.Goals as goal

-- the first bucket whose chain does not end has the lowest offset
endless_at : (p : HashPartsValue) (b : ℕ) → IsLeast (Below (nbucket p.words) (λ b. ¬ Ends (chain p.words) (bucket p.words b))) b →
    IsLeast (endless_chain p) (bucket_at p b)
endless_at p b least = record {
  holds = (b, least.holds.0, least.holds.1, refl);
  lowest = λ x here. (let (k, lt, endless, at) = here in let le = least.lowest k (lt, endless) in omega arith);
}

no_endless_chain : (p : HashPartsValue) → Never (Below (nbucket p.words) (λ b. ¬ Ends (chain p.words) (bucket p.words b))) →
    Never (endless_chain p)
no_endless_chain p never x here = never here.0 (here.1, here.2)

pub returns-in-Some-clause-lowest : goal.returns-in-Some-clause-lowest
returns-in-Some-clause-lowest c =
    endless_at (hash_parts_value c.args.parts.now) c.in-Some.b (rw c.in-Some.is at c.lowest_endless.ensures.lowest)

pub returns-in-None-clause-lowest : goal.returns-in-None-clause-lowest
returns-in-None-clause-lowest c =
    no_endless_chain (hash_parts_value c.args.parts.now) (rw c.in-None.is at c.lowest_endless.ensures.lowest)
