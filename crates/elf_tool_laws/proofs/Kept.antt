-- The indexes that pass a test, in order, and the position of each among them. By induction on the number of indexes: the next index comes
-- last, if it passes.
use Rattle.std.proofs.Common.{◌≡◌, ◌∙◌, ◌<◌, ◌+◌, ◌⊎◌, Bool, ℕ, List, zero, suc, [], ◌∷◌, ◌++◌, ap, arith, false, get_or, inl, inr}
use Rattle.std.proofs.Common.{length, length-append, map-id, refl, subst, sym, true, zero-add}
use Rattle.std.proofs.lemmas.Bool.{cases_lt}
use Rattle.std.proofs.Math.Seq.{get_or-append_seam}
use Rattle.std.proofs.lemmas.List.{append-nil, get_or_append_left}
use Rattle.std.proofs.lemmas.List.Elements.{filter-append}
use Rattle.std.proofs.lemmas.List.FromFn.{map-range_with_len_more}
use Rattle.std.specs.List.{range_with_len}
use Rattle.std.specs.Prelude.{filter}

-- those below n that pass
abbrev passing : (ℕ → Bool) → ℕ → List ℕ
passing p n = filter p (range_with_len 0 n)

next : (p : ℕ → Bool) (n : ℕ) → passing p (suc n) ≡ passing p n ++ filter p (n ∷ [])
next p n =
    let more : suc n ≡ n + 1 = omega arith in
    ap (passing p) more
    ∙ ap (λ (xs : List ℕ). filter p xs)
    (sym (map-id (range_with_len 0 (n + 1))) ∙ map-range_with_len_more (λ (x : ℕ). x) 0 n n (zero-add n)
    ∙ ap (λ (xs : List ℕ). xs ++ n ∷ []) (map-id (range_with_len 0 n)))
    ∙ filter-append p (range_with_len 0 n) (n ∷ [])

next_passes : (p : ℕ → Bool) (n : ℕ) → p n ≡ true → passing p (suc n) ≡ passing p n ++ n ∷ []
next_passes p n is =
    let one : filter p (n ∷ []) ≡ n ∷ [] = rw is refl in
    next p n ∙ ap (λ (xs : List ℕ). passing p n ++ xs) one

next_fails : (p : ℕ → Bool) (n : ℕ) → p n ≡ false → passing p (suc n) ≡ passing p n
next_fails p n is =
    let none : filter p (n ∷ []) ≡ [] = rw is refl in
    next p n ∙ ap (λ (xs : List ℕ). passing p n ++ xs) none ∙ append-nil (passing p n)

cases_of : (b : Bool) → (b ≡ true) ⊎ (b ≡ false)
cases_of true = inl refl
cases_of false = inr refl

-- each position is that of an index
pub at_position : (p : ℕ → Bool) (n k : ℕ) → k < length (passing p n) → (i : ℕ) × (i < n) × (p i ≡ true) × (length (passing p i) ≡ k)
at_position p zero k lt = absurd (omega arith)
at_position p (suc n) k lt = elim (cases_of (p n)) [
  | inr fails ↦
      let same = ap (λ (xs : List ℕ). length xs) (next_fails p n fails) in
      let (i, i_in, is, at) = at_position p n k (omega arith) in
      (i, omega arith, is, at)
  | inl passes ↦
      let long = ap (λ (xs : List ℕ). length xs) (next_passes p n passes) ∙ length-append (passing p n) (n ∷ []) in
      elim (cases_lt k (length (passing p n))) [
        | inl below ↦ (let (i, i_in, is, at) = at_position p n k below in (i, omega arith, is, at))
        | inr last ↦ (n, omega arith, passes, omega arith)
      ]
]

-- the index at its position
pub index_at : (p : ℕ → Bool) (n i : ℕ) → i < n → p i ≡ true →
    (length (passing p i) < length (passing p n)) × (get_or (passing p n) (length (passing p i)) 0 ≡ i)
index_at p zero i lt is = absurd (omega arith)
index_at p (suc n) i lt is = elim (cases_lt i n) [
  | inl below ↦
      let (within, at) = index_at p n i below is in
      elim (cases_of (p n)) [
        | inr fails ↦
            let same = next_fails p n fails in
            let long = ap (λ (xs : List ℕ). length xs) same in
            (omega arith, ap (λ (xs : List ℕ). get_or xs (length (passing p i)) 0) same ∙ at)
        | inl passes ↦
            let more = next_passes p n passes in
            let long = ap (λ (xs : List ℕ). length xs) more ∙ length-append (passing p n) (n ∷ []) in (
              omega arith,
              ap (λ (xs : List ℕ). get_or xs (length (passing p i)) 0) more
                  ∙ get_or_append_left (passing p n) (n ∷ []) 0 (length (passing p i)) within ∙ at,
            )
      ]
  | inr last ↦
      let same : i ≡ n = omega arith in
      let more = next_passes p n (subst (λ (j : ℕ). p j ≡ true) same is) in
      let long = ap (λ (xs : List ℕ). length xs) more ∙ length-append (passing p n) (n ∷ []) in
      let here = ap (λ (j : ℕ). length (passing p j)) same in (
        omega arith,
        ap (λ (j : ℕ). get_or (passing p (suc n)) (length (passing p j)) 0) same
            ∙ ap (λ (xs : List ℕ). get_or xs (length (passing p n)) 0) more ∙ get_or-append_seam (passing p n) n [] 0 ∙ sym same,
      )
]
