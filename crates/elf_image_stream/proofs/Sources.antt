-- What users of a source need of its definitions.
use Rattle.std.proofs.Common.{◌≡◌, ◌∙◌, ◌+◌, ◌%◌, ◌^◌, inl, inr, ℕ, List, None, Option, Some, ap, arith, refl, sym, ◌++◌, take, drop, ap₂}
use Rattle.std.proofs.Common.{take-add, ◌-◌, ◌≤◌, ◌⊎◌, [], Result, Ok, Err, IfSome, OnOk, length, append-nil, append_assoc, length-append}
use Rattle.std.proofs.Common.{take_all}
use Rattle.std.proofs.lemmas.List.{drop-drop, take_rest}
use Rattle.std.proofs.KnownBytes.{Consumes-kept, Consumes-nil, Consumes-trans, Appends-trans}
use Rattle.std.specs.Io.KnownBytes.{Appends, Consumes, IsAtEnd, Keeps}
use native.Mathlib.Numerals.{unary_clauses}
use native.Mathlib.Omega.{arith as omega_arith}
use lib.Seq.{take-append_seam}
use Rattle.elf_image_stream.specs.Reading.{AppendsRead}
use Rattle.elf_image_stream.specs.Source.{HasFailed, Fails, Reaches, Remembers, GivesAt}
use Rattle.elf_image_stream.specs.declared.source.Failures.{Failures}

-- a read of bytes that the source has fails only where a call does
pub failed_within : (content : Option (List ℕ)) (old new : Failures) (at n x : ℕ) → Reaches content (at + n) →
    HasFailed content old new at n x → Fails old new x
failed_within content old new at n x reaches (above, below, inl fails) = fails
failed_within content old new at n x reaches (above, below, inr (still, (b, said, short))) =
    absurd (let long = reaches b said in omega arith)

-- one failure more is never none
none_more : (c : ℕ) → c ≡ (c + 1) % 2 ^ 64 → ⊥
none_more c same = omega (arith, same)

-- what a source remembers reports whether a call failed, and what it was asked for
pub one_failure : (a b : Option ℕ) (old new : Failures) → Remembers a old new → Remembers b old new → a ≡ b
one_failure None None old new still also = refl
one_failure None (Some y) old new still fails = absurd (none_more old.count (ap (λ (f : Failures). f.count) (sym still) ∙ fails.0))
one_failure (Some x) None old new fails still = absurd (none_more old.count (ap (λ (f : Failures). f.count) (sym still) ∙ fails.0))
one_failure (Some x) (Some y) old new one other = ap (λ (n : ℕ). Some n) (sym one.1 ∙ other.1)

-- What one more read puts after the bytes that a buffer has.

-- the first n bytes stayed, and m more came from after them
pub filled_on : (b now old : List ℕ) (at n m : ℕ) → take n now ≡ take n old → take n old ≡ take n (drop at b)
    → GivesAt b (at + n) m (drop n now) → take (n + m) now ≡ take (n + m) (drop at b)
filled_on b now old at n m front before gives =
    take-add n m now
    ∙ ap₂ (λ (x y : List ℕ). x ++ y) (front ∙ before) (gives.bytes ∙ ap (take m) (sym (drop-drop n at b)))
    ∙ sym (take-add n m (drop at b))

-- What moved from a reader or to a writer, call by call. The bytes of a further call follow those of the earlier ones; a call that gave
-- nothing or failed adds none. If the reader's content is known, a reader at its end, or one that gave n bytes, gave its first n
-- (`gives_first`).

-- what one more write took follows what was out
pub Appends-more : (a b c : Option (List ℕ)) (bytes : List ℕ) (n m : ℕ) → Appends a b (take n bytes)
    → Appends b c (take m (take (length bytes - n) (drop n bytes))) → Appends a c (take (n + m) bytes)
Appends-more a b c bytes n m before write =
    let rest = rw take_rest at write in
    rw take-add (Appends-trans a b c _ _ before rest)

-- before the first read nothing is after what was there
pub nothing_read : (a : Option (List ℕ)) (old : List ℕ) (n : ℕ) → length old ≤ n → AppendsRead a a old (take n old)
nothing_read a old n within = record { given = []; appended = take_all n old within ∙ sym (append-nil old); taken = Consumes-nil a }

-- what one more read gave follows what was read
pub read_more : (a b c : Option (List ℕ)) (front old mid new : List ℕ) (n m : ℕ) → take n mid ≡ take n old → take n new ≡ take n mid
    → AppendsRead a b front (take n old) → Consumes b c (take m (drop n new)) → AppendsRead a c front (take (n + m) new)
read_more a b c front old mid new n m room kept before read = record {
  given = before.given ++ take m (drop n new);
  appended = take-add n m new ∙ ap (λ l. l ++ take m (drop n new)) (kept ∙ room ∙ before.appended) ∙
      append_assoc front before.given (take m (drop n new));
  taken = Consumes-trans a b c before.given (take m (drop n new)) before.taken read;
}

-- a read that gave nothing
pub read_none : (a b c : Option (List ℕ)) (front old mid new : List ℕ) (n : ℕ) → take n mid ≡ take n old → take n new ≡ take n mid
    → AppendsRead a b front (take n old) → Consumes b c [] → AppendsRead a c front (take n new)
read_none a b c front old mid new n room kept before none = record {
  given = before.given ++ [];
  appended = kept ∙ room ∙ before.appended ∙ ap (λ l. front ++ l) (sym (append-nil before.given));
  taken = Consumes-trans a b c before.given [] before.taken none;
}

-- a read that failed gave nothing
pub read_failed : (a b c : Option (List ℕ)) (front old mid new : List ℕ) (n : ℕ) → take n mid ≡ take n old → take n new ≡ take n mid
    → AppendsRead a b front (take n old) → Keeps b c → AppendsRead a c front (take n new)
read_failed a b c front old mid new n room kept before same =
    read_none a b c front old mid new n room kept before (Consumes-kept b b c [] (Consumes-nil b) same)

-- a reader that is at its end, or gave n bytes, gave its first n
pub gives_first : {U E : Type 0} (a b : Option (List ℕ)) (result : Result U E) (xs : List ℕ) (n : ℕ) → Consumes a b xs → length xs ≤ n
    → OnOk result (IsAtEnd b ⊎ (length xs ≡ n)) → OnOk result (IfSome a (λ bytes. xs ≡ take n bytes))
gives_first a b (Err e) xs n taken within ends = tt
gives_first None b (Ok u) xs n taken within ends = tt
gives_first (Some bytes) None (Ok u) xs n taken within ends = absurd taken
gives_first (Some bytes) (Some rest) (Ok u) xs n taken within (inl end) =
    let all : bytes ≡ xs = taken ∙ ap (λ l. xs ++ l) end ∙ append-nil xs in
    rw all (sym (take_all n xs within))
gives_first (Some bytes) (Some rest) (Ok u) xs n taken within (inr long) = rw (taken, ← long) (sym (take-append_seam xs rest))

-- a reader that is at its end, or filled what holds at most n bytes, gave its first bytes, up to n in all
pub gives_up_to : {U E : Type 0} (a b : Option (List ℕ)) (result : Result U E) (old new : List ℕ) (n : ℕ) → AppendsRead a b old new →
    length new ≤ n
    → OnOk result (IsAtEnd b ⊎ (length new ≡ n)) → OnOk result (IfSome a (λ bytes. new ≡ old ++ take (n - length old) bytes))
gives_up_to a b (Err e) old new n read within ends = tt
gives_up_to None b (Ok u) old new n read within ends = tt
gives_up_to {E = E} (Some bytes) b (Ok u) old new n read within ends =
    let counted : length new ≡ length old + length read.given = rw read.appended (length-append old read.given) in
    let most : length read.given ≤ n - length old = omega (omega_arith, counted, within) in
    read.appended ∙
    ap (λ l. old ++ l) (gives_first {E = E} (Some bytes) b (Ok u) read.given (n - length old) read.taken most (full ends counted))
  where
    full : IsAtEnd b ⊎ (length new ≡ n) → length new ≡ length old + length read.given → IsAtEnd b ⊎ (length read.given ≡ n - length old)
    full (inl end) counted = inl end
    full (inr whole) counted = inr (omega (omega_arith, whole, counted))

-- after nothing is what was given
pub after_nothing : {U E : Type 0} (a : Option (List ℕ)) (result : Result U E) (old new : List ℕ) (n : ℕ) → old ≡ []
    → OnOk result (IfSome a (λ bytes. new ≡ old ++ take (n - length old) bytes)) → OnOk result (IfSome a (λ bytes. new ≡ take n bytes))
after_nothing a (Err e) old new n empty said = tt
after_nothing None (Ok u) old new n empty said = tt
after_nothing (Some bytes) (Ok u) old new n empty said = simp unary_clauses at (rw empty at said)
