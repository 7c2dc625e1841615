-- The positions that pass a test, in order. One that passes joins the list and raises the place of the next one by one; any other changes
-- nothing. So the place of a position, which is how many before it pass, is at most the position. By induction on n: the list of those
-- below n has each at its place, and nothing else. So places of positions that pass ascend, and no two are equal.
use Rattle.std.proofs.Common.{◌≡◌, ℕ, ◌<◌, Bool, true, false, inl, inr, refl, ◌+◌, ◌-◌, ◌≤◌, ◌++◌, [], zero, suc, List, ◌∷◌, get_or, length}
use Rattle.std.proofs.Common.{map, sym, ap, subst, ◌⊎◌, ◌∙◌, arith, length-append, zero-add}
use Rattle.std.specs.Prelude.{filter}
use Rattle.std.proofs.lemmas.Bool.{cases_lt}
use Rattle.std.specs.List.{range_with_len}
use Rattle.std.proofs.lemmas.List.{append-nil, map-append, map-id, get_or_append_left}
use Rattle.std.proofs.lemmas.List.Elements.{filter-append}
use Rattle.std.proofs.lemmas.List.FromFn.{get_or-map-range_with_len, map-range_with_len_more}
use Rattle.std.proofs.Math.Seq.{get_or-append_seam}

-- the positions up to i + 1 are those up to i, and i
pub range_more : (i : ℕ) → range_with_len 0 (i + 1) ≡ range_with_len 0 i ++ i ∷ []
range_more i =
    sym (map-id (range_with_len 0 (i + 1))) ∙ map-range_with_len_more (λ (x : ℕ). x) 0 i i (zero-add i) ∙
    ap (λ (xs : List ℕ). xs ++ i ∷ []) (map-id (range_with_len 0 i))

filter_next : (p : ℕ → Bool) (i : ℕ) → filter p (range_with_len 0 (i + 1)) ≡ filter p (range_with_len 0 i) ++ filter p (i ∷ [])
filter_next p i = ap (λ (xs : List ℕ). filter p xs) (range_more i) ∙ filter-append p (range_with_len 0 i) (i ∷ [])

-- the positions below n that pass, and how many of them are below i
abbrev pub passing : (ℕ → Bool) → ℕ → List ℕ
passing p n = filter p (range_with_len 0 n)

abbrev pub place : (ℕ → Bool) → ℕ → ℕ
place p i = length (passing p i)

pub cases_bool : (b : Bool) → (b ≡ true) ⊎ (b ≡ false)
cases_bool true = inl refl
cases_bool false = inr refl

-- one more position
pub passing_one : (p : ℕ → Bool) (i : ℕ) → p i ≡ true → passing p (i + 1) ≡ passing p i ++ i ∷ []
passing_one p i is =
    let one : filter p (i ∷ []) ≡ i ∷ [] = rw is refl in
    filter_next p i ∙ ap (λ (xs : List ℕ). passing p i ++ xs) one

passing_other : (p : ℕ → Bool) (i : ℕ) → p i ≡ false → passing p (i + 1) ≡ passing p i
passing_other p i is =
    let none : filter p (i ∷ []) ≡ [] = rw is refl in
    filter_next p i ∙ ap (λ (xs : List ℕ). passing p i ++ xs) none ∙ append-nil (passing p i)

pub place_one : (p : ℕ → Bool) (i : ℕ) → p i ≡ true → place p (i + 1) ≡ place p i + 1
place_one p i is = ap (λ (xs : List ℕ). length xs) (passing_one p i is) ∙ length-append (passing p i) (i ∷ [])

pub place_other : (p : ℕ → Bool) (i : ℕ) → p i ≡ false → place p (i + 1) ≡ place p i
place_other p i is = ap (λ (xs : List ℕ). length xs) (passing_other p i is)

next_is : (i : ℕ) → i + 1 ≡ suc i
next_is i = omega arith

-- ---- places

pub place_le : (p : ℕ → Bool) (i : ℕ) → place p i ≤ i
place_le p zero = omega arith
place_le p (suc i) = elim (cases_bool (p i)) [
  | inl is ↦ (let before = place_le p i in
      subst (λ (n : ℕ). place p n ≤ n) (next_is i) (omega (arith, place_one p i is)))
  | inr is ↦ (let before = place_le p i in
      subst (λ (n : ℕ). place p n ≤ n) (next_is i) (omega (arith, place_other p i is)))
]

-- where none passes from n on, each from there on has the place of n
past_more : (p : ℕ → Bool) (n d : ℕ) → ((j : ℕ) → n ≤ j → p j ≡ false) → place p (n + d) ≡ place p n
past_more p n zero none = ap (place p) (omega arith)
past_more p n (suc d) none =
    ap (place p) (omega arith) ∙ place_other p (n + d) (none (n + d) (omega arith)) ∙ past_more p n d none

pub place_past : (p : ℕ → Bool) (n k : ℕ) → ((j : ℕ) → n ≤ j → p j ≡ false) → n ≤ k → place p k ≡ place p n
place_past p n k none past =
    (let same : k ≡ n + (k - n) = omega arith in ap (place p) same ∙ past_more p n (k - n) none)

-- a place in the list of all places up to n
pub place_get : (p : ℕ → Bool) (n k : ℕ) → k < n + 1 → get_or (map (place p) (range_with_len 0 (n + 1))) k 0 ≡ place p k
place_get p n k lt = get_or-map-range_with_len (place p) 0 (n + 1) k k 0 lt (zero-add k)

-- ---- what is made of each that passes

pub mapped_next : {X V : Type 0} (view : X → V) (D : ℕ → V) (p : ℕ → Bool) (i : ℕ) (items : List X) (x : X) →
    map view items ≡ map D (passing p i) → view x ≡ D i → p i ≡ true → map view (items ++ x ∷ []) ≡ map D (passing p (i + 1))
mapped_next {X} {V} view D p i items x done same is =
    map-append view items (x ∷ []) ∙ ap (λ (vs : List V). vs ++ view x ∷ []) done ∙
    ap (λ (v : V). map D (passing p i) ++ v ∷ []) same ∙ sym (map-append D (passing p i) (i ∷ [])) ∙
    ap (λ (is : List ℕ). map D is) (sym (passing_one p i is))

-- numbers, which have no view
pub taken_next : (D : ℕ → ℕ) (p : ℕ → Bool) (i : ℕ) (items : List ℕ) (x : ℕ) →
    items ≡ map D (passing p i) → x ≡ D i → p i ≡ true → items ++ x ∷ [] ≡ map D (passing p (i + 1))
taken_next D p i items x done same is =
    sym (map-id (items ++ x ∷ [])) ∙ mapped_next (λ (y : ℕ). y) D p i items x (map-id items ∙ done) same is

pub mapped_passed : {V : Type 0} (D : ℕ → V) (p : ℕ → Bool) (i : ℕ) → p i ≡ false → map D (passing p i) ≡ map D (passing p (i + 1))
mapped_passed D p i is = ap (λ (is : List ℕ). map D is) (sym (passing_other p i is))

-- ---- a position that passes is at its place in the list

pub record StandsAt (p : ℕ → Bool) (n i : ℕ) : Type 0 where
  pub below : place p i < place p n
  pub at : get_or (passing p n) (place p i) 0 ≡ i

stands_left : (p : ℕ → Bool) (n i : ℕ) → StandsAt p n i → StandsAt p (n + 1) i
stands_left p n i stands = elim (cases_bool (p n)) [
  | inl is ↦ (
      let here = stands.below in
      record {
        below = omega (arith, place_one p n is);
        at = ap (λ (xs : List ℕ). get_or xs (place p i) 0) (passing_one p n is) ∙
            get_or_append_left (passing p n) (n ∷ []) 0 (place p i) here ∙ stands.at;
      })
  | inr is ↦ (
      let same = passing_other p n is in
      record {
        below = subst (λ (xs : List ℕ). place p i < length xs) (sym same) stands.below;
        at = ap (λ (xs : List ℕ). get_or xs (place p i) 0) same ∙ stands.at;
      })
]

stands_last : (p : ℕ → Bool) (n : ℕ) → p n ≡ true → StandsAt p (n + 1) n
stands_last p n is =
    record {
      below = omega (arith, place_one p n is);
      at = ap (λ (xs : List ℕ). get_or xs (place p n) 0) (passing_one p n is) ∙ get_or-append_seam (passing p n) n [] 0;
    }

pub stands_at : (p : ℕ → Bool) (n i : ℕ) → i < n → p i ≡ true → StandsAt p n i
stands_at p zero i lt is = absurd (omega arith)
stands_at p (suc n) i lt is = subst (λ (k : ℕ). StandsAt p k i) (next_is n) (elim (cases_lt i n) [
  | inl below ↦ stands_left p n i (stands_at p n i below is)
  | inr above ↦ (let last : n ≡ i = omega arith in subst (λ (k : ℕ). StandsAt p (n + 1) k) last (stands_last p n (ap p last ∙ is)))
])

-- so places keep the order, and no two positions that pass have one
pub places_ascend : (p : ℕ → Bool) (i j : ℕ) → i < j → p i ≡ true → place p i < place p j
places_ascend p i j lt is = (stands_at p j i lt is).below

pub one_place : (p : ℕ → Bool) (i j : ℕ) → p i ≡ true → p j ≡ true → place p i ≡ place p j → i ≡ j
one_place p i j is js same = elim (cases_lt i j) [
  | inl below ↦ absurd (let lt = places_ascend p i j below is in omega arith)
  | inr above ↦ elim (cases_lt j i) [
    | inl below ↦ absurd (let lt = places_ascend p j i below js in omega arith)
    | inr le ↦ omega arith
  ]
]

-- what is in the list is a position that passes
pub record IsListed (p : ℕ → Bool) (n q i : ℕ) : Type 0 where
  pub there : i < n
  pub passes : p i ≡ true
  pub place_is : place p i ≡ q
  pub at : get_or (passing p n) q 0 ≡ i

listed_here : (p : ℕ → Bool) (n q i : ℕ) → i < n → p i ≡ true → place p i ≡ q → IsListed p n q i
listed_here p n q i lt is same = record {
  there = lt;
  passes = is;
  place_is = same;
  at = ap (λ (k : ℕ). get_or (passing p n) k 0) (sym same) ∙ (stands_at p n i lt is).at;
}

pub listed : (p : ℕ → Bool) (n q : ℕ) → q < place p n → (i : ℕ) × IsListed p n q i
listed p zero q lt = absurd (omega arith)
listed p (suc n) q lt = elim (cases_lt q (place p n)) [
  | inl below ↦ (
      let (i, is) = listed p n q below in
      let there = is.there in
      (i, listed_here p (suc n) q i (omega arith) is.passes is.place_is))
  | inr above ↦ elim (cases_bool (p n)) [
    | inl is ↦ (
        let long = place_one p n is in
        let all : q < place p (n + 1) = subst (λ (k : ℕ). q < place p k) (sym (next_is n)) lt in
        (n, listed_here p (suc n) q n (omega arith) is (omega arith)))
    | inr is ↦ absurd (
        let long = place_other p n is in
        let all : q < place p (n + 1) = subst (λ (k : ℕ). q < place p k) (sym (next_is n)) lt in
        omega arith)
  ]
]
