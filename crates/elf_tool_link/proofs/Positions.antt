-- The position of the next section: an index that is kept raises it by one, and no other does.
use Rattle.std.proofs.Common.{◌≡◌, ◌+◌, ◌++◌, ◌∷◌, ◌∙◌, [], Bool, List, ap, false, length, length-append, map-id, refl, sym}
use Rattle.std.proofs.Common.{true, zero-add, ℕ}
use Rattle.std.specs.Prelude.{filter}
use Rattle.std.specs.List.{range_with_len}
use Rattle.std.proofs.lemmas.List.{append-nil}
use Rattle.std.proofs.lemmas.List.Elements.{filter-append}
use Rattle.std.proofs.lemmas.List.FromFn.{map-range_with_len_more}

next : (p : ℕ → Bool) (i : ℕ) → filter p (range_with_len 0 (i + 1)) ≡ filter p (range_with_len 0 i) ++ filter p (i ∷ [])
next p i =
    ap (λ (xs : List ℕ). filter p xs)
    (sym (map-id (range_with_len 0 (i + 1))) ∙ map-range_with_len_more (λ (x : ℕ). x) 0 i i (zero-add i)
    ∙ ap (λ (xs : List ℕ). xs ++ i ∷ []) (map-id (range_with_len 0 i)))
    ∙ filter-append p (range_with_len 0 i) (i ∷ [])

pub counted : (p : ℕ → Bool) (i : ℕ) → p i ≡ true →
    length (filter p (range_with_len 0 (i + 1))) ≡ length (filter p (range_with_len 0 i)) + 1
counted p i is =
    let one : filter p (i ∷ []) ≡ i ∷ [] = rw is refl in
    ap (λ (xs : List ℕ). length xs) (next p i ∙ ap (λ (xs : List ℕ). filter p (range_with_len 0 i) ++ xs) one)
    ∙ length-append (filter p (range_with_len 0 i)) (i ∷ [])

pub passed : (p : ℕ → Bool) (i : ℕ) → p i ≡ false →
    length (filter p (range_with_len 0 (i + 1))) ≡ length (filter p (range_with_len 0 i))
passed p i is =
    let none : filter p (i ∷ []) ≡ [] = rw is refl in
    ap (λ (xs : List ℕ). length xs)
    (next p i ∙ ap (λ (xs : List ℕ). filter p (range_with_len 0 i) ++ xs) none ∙ append-nil (filter p (range_with_len 0 i)))
