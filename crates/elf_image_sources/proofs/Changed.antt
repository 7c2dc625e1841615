-- A byte that is changed. A read has it at its distance from the offset of the read, if it reaches so far; else the read is as before.
use Rattle.std.proofs.Common.{arith, ◌≡◌, ◌∙◌, ◌+◌, ◌-◌, ◌≤◌, ◌<◌, ◌⊎◌, inl, inr, ap, refl, subst, sym, ℕ, List, [], ◌∷◌}
use Rattle.std.proofs.Common.{Option, None, Some}
use Rattle.std.proofs.Common.{IfSome, drop, set, suc, take, zero}
use Rattle.std.proofs.lemmas.List.{drop-set-add, drop-set-lt, length-set, take-set-le}
use lib.Seq.{take-set-lt}
use Rattle.elf_field.specs.Bytes.{IsBytes}
use Rattle.elf_field.specs.laws.Bytes.{IsBytes-cons, IsBytes-rest}
use Rattle.elf_image_stream.specs.Source.{GivesAt, ReportsBytes}
use Rattle.elf_image_sources.specs.Patched.{with_byte}

IsBytes-set : (b : List ℕ) (p value : ℕ) → value < 256 → IsBytes b → IsBytes (set b p value)
IsBytes-set [] p value fits bytes = bytes
IsBytes-set (a ∷ b) zero value fits bytes = IsBytes-cons value b fits (IsBytes-rest a b bytes)
IsBytes-set (a ∷ b) (suc p) value fits bytes =
    IsBytes-cons a (set b p value) (bytes zero) (IsBytes-set b p value fits (IsBytes-rest a b bytes))

-- a byte changed to a byte
pub bytes_reported : (content : Option (List ℕ)) (p value : ℕ) → value < 256 → ReportsBytes content →
    ReportsBytes (with_byte p value content)
bytes_reported None p value fits bytes b same = absurd (let none : None ≡ Some b = same in cc)
bytes_reported (Some a) p value fits bytes b same =
    let are : set a p value ≡ b = (let some : Some (set a p value) ≡ Some b = same in cc) in
    subst IsBytes are (IsBytes-set a p value fits (bytes a refl))

gives_changed : (b : List ℕ) (p value at k : ℕ) (buf : List ℕ) → at ≤ p → p - at < k → GivesAt b at k buf →
    GivesAt (set b p value) at k (set buf (p - at) value)
gives_changed b p value at k buf from reached gives =
    let long = length-set b p value in
    let there : at + (p - at) ≡ p = omega arith in
    record {
      bytes =
          take-set-lt k buf (p - at) value reached
          ∙ ap (λ (bs : List ℕ). set bs (p - at) value) gives.bytes
          ∙ sym (take-set-lt k (drop at b) (p - at) value reached)
          ∙ ap (take k) (sym (drop-set-add at b (p - at) value) ∙ ap (λ (q : ℕ). drop at (set b q value)) there);
      within = λ some. (let fits = gives.within some in omega (arith, fits, long));
      some = λ none room. absurd (omega arith);
    }

-- the read reaches the changed byte
pub changed_there : (content : Option (List ℕ)) (p value at k : ℕ) (buf : List ℕ) → at ≤ p → p - at < k →
    IfSome content (λ b. GivesAt b at k buf) → IfSome (with_byte p value content) (λ b. GivesAt b at k (set buf (p - at) value))
changed_there None p value at k buf from reached gives = tt
changed_there (Some b) p value at k buf from reached gives = gives_changed b p value at k buf from reached gives

gives_unchanged : (b : List ℕ) (p value at k : ℕ) (buf : List ℕ) → (p < at) ⊎ ((at ≤ p) × (k ≤ p - at)) → GivesAt b at k buf →
    GivesAt (set b p value) at k buf
gives_unchanged b p value at k buf apart gives =
    let long = length-set b p value in
    record {
      bytes = gives.bytes ∙ sym (same apart);
      within = λ some. (let fits = gives.within some in omega (arith, fits, long));
      some = λ none room. (let end = gives.some none room in omega (arith, end, long));
    } where
      same : (p < at) ⊎ ((at ≤ p) × (k ≤ p - at)) → take k (drop at (set b p value)) ≡ take k (drop at b)
      same (inl before) = ap (take k) (drop-set-lt at b p value before)
      same (inr (from, after)) =
          let there : p ≡ at + (p - at) = omega arith in
          ap (λ (q : ℕ). take k (drop at (set b q value))) there
          ∙ ap (take k) (drop-set-add at b (p - at) value)
          ∙ take-set-le k (drop at b) (p - at) value after

-- the changed byte is before the read, or after its end
pub changed_elsewhere : (content : Option (List ℕ)) (p value at k : ℕ) (buf : List ℕ) → (p < at) ⊎ ((at ≤ p) × (k ≤ p - at)) →
    IfSome content (λ b. GivesAt b at k buf) → IfSome (with_byte p value content) (λ b. GivesAt b at k buf)
changed_elsewhere None p value at k buf apart gives = tt
changed_elsewhere (Some b) p value at k buf apart gives = gives_unchanged b p value at k buf apart gives
