use Rattle.std.proofs.Common.{◌≡◌, inl, inr, subst, arith}
use Rattle.std.proofs.lemmas.Bool.{cases_lt}
use Rattle.elf_table_hash.specs.HashTable.{IsOn, bucket_of, chain, name_of}
use Rattle.elf_table_hash.proofs.hash_room.lowest_symbol_off.Goals as goal

pub loop-s-preserved : goal.loop-s-preserved
loop-s-preserved c = λ k some lt.
    (let here = rw (c.start_of_symbol-start.ensures, c.requires.own) at (c.is_on.ensures.0 c.if-not-is_on.false) in
    elim (cases_lt k c.loop-s.s) [
      | inl below ↦ c.loop-s.invariant k some below
      | inr above ↦ (
          let same : c.loop-s.s ≡ k = omega arith in
          subst (λ j. IsOn (chain c.args.parts.now.words) (bucket_of c.args.parts.now.words (name_of c.args.parts.now.names j)) j) same
          here)
    ])
