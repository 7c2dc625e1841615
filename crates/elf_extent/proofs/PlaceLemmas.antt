-- The least place of a part, and the least places of a list of parts.
use Rattle.std.proofs.Common.{◌≡◌, ℕ, zero, suc, ◌+◌, ◌<◌, ◌≤◌, List, [], ◌∷◌, length, get_or, ap, sym, ◌∙◌, arith, refl, ◌-◌, ◌*◌, ◌/◌}
use Rattle.std.proofs.Common.{◌%◌, ◌^◌, max, ◌++◌, drop, Option, None, Some, inl, inr, subst, append_assoc}
use Rattle.std.proofs.lemmas.List.{ext_get_or, append-nil, drop_more, drop_all, get_or_append_left, get_or_at, get_or-map, length_push}
use Rattle.std.specs.Prelude.{MatchOption, SomeIff}
use Rattle.std.proofs.Math.Nat.{mul-le-mul_left, mul-mod_right, max-eq_left}
use Rattle.std.proofs.lemmas.Bool.{cases_lt}
use Rattle.elf_extent.specs.Place.{Fits, Least, end_of, alignment, IsLeastPlace, HasNoPlace, EndsFit, IsPlaceFault}
use Rattle.elf_extent.specs.declared.placement.PlaceFault.TheVariants.{Overflow}

-- Places that fit are as many as the parts, and none is below the start or before an earlier part's end: by induction on the parts. Least
-- places are one list, because of two such lists each is at every part at most the other.

-- there is a place for each part
pub fits_length : (ps : List (ℕ × ℕ)) (from : ℕ) (q : List ℕ) → Fits ps from q → length q ≡ length ps
fits_length [] from [] fits = refl
fits_length [] from (x ∷ q) fits = absurd fits
fits_length (p ∷ ps) from [] fits = absurd fits
fits_length (p ∷ ps) from (x ∷ q) (multiple, le, rest) = ap suc (fits_length ps (x + p.0) q rest)

-- no part begins below from
pub above_from : (ps : List (ℕ × ℕ)) (from : ℕ) (q : List ℕ) (k : ℕ) → Fits ps from q → k < length ps →
    from ≤ get_or q k 0
above_from [] from q k fits lt = let no : ⊥ = omega arith in absurd no
above_from (p ∷ ps) from [] k fits lt = absurd fits
above_from (p ∷ ps) from (x ∷ q) zero (multiple, le, rest) lt = le
above_from (p ∷ ps) from (x ∷ q) (suc k) (multiple, le, rest) lt =
    let later = above_from ps (x + p.0) q k rest (omega arith) in
    omega arith

-- no part begins before an earlier one ends
pub above_earlier : (ps : List (ℕ × ℕ)) (from : ℕ) (q : List ℕ) (i j : ℕ) → Fits ps from q → i < j →
    j < length ps → end_of ps q i ≤ get_or q j 0
above_earlier [] from q i j fits lt within = let no : ⊥ = omega arith in absurd no
above_earlier (p ∷ ps) from [] i j fits lt within = absurd fits
above_earlier (p ∷ ps) from (x ∷ q) i zero fits lt within = let no : ⊥ = omega arith in absurd no
above_earlier (p ∷ ps) from (x ∷ q) zero (suc j) (multiple, le, rest) lt within =
    above_from ps (x + p.0) q j rest (omega arith)
above_earlier (p ∷ ps) from (x ∷ q) (suc i) (suc j) (multiple, le, rest) lt within =
    above_earlier ps (x + p.0) q i j rest (omega arith) (omega arith)

-- two lists of least places are one
pub same_least : (ps : List (ℕ × ℕ)) (from : ℕ) (p q : List ℕ) → Least ps from p → Least ps from q → p ≡ q
same_least ps from p q one two =
    ext_get_or 0 p q (fits_length ps from p one.fits ∙ sym (fits_length ps from q two.fits))
    (λ k lt.
    let below = one.least q two.fits k in
    let above = two.least p one.fits k in
    omega arith)

-- `place_past` rounds the cursor up to the least place, and by induction on the parts there are always least places. A part that ends below
-- 2^64 at its least place keeps `ArePlaced` (`placed_more`). Otherwise it is the overflow, because all earlier parts end below 2^64
-- (`overflow_at`, `no_place_at`).

abbrev Part : Type 0
Part = ℕ × ℕ

pub alignment-pos : (align : ℕ) → 0 < alignment align
alignment-pos zero = omega arith
alignment-pos (suc n) = omega arith

-- the code's form of the alignment
pub alignment-max : (align : ℕ) → max align 1 ≡ alignment align
alignment-max zero = refl
alignment-max (suc n) = max-eq_left (omega arith)

-- where the cursor is no multiple, the next one is the alignment less the remainder further
pub place_past : (cursor align : ℕ) → 0 < cursor % alignment align →
    IsLeastPlace cursor align (cursor + (alignment align - cursor % alignment align))
place_past cursor align past =
    let a = alignment align in
    let pos : 0 < a = alignment-pos align in
    let q = cursor / a in
    let next : cursor + (a - cursor % a) ≡ a * (q + 1) = omega arith in
    record {
      multiple = ap (λ n. n % a) next ∙ mul-mod_right a (q + 1);
      from = omega arith;
      least = λ y multiple le.
          let zero_rest : y % a ≡ 0 = multiple in
          elim (cases_lt (y / a) (q + 1)) [
            | inl less ↦
                let times = mul-le-mul_left {m = y / a} {n = q} a (omega arith) in
                let no : ⊥ = omega arith in
                absurd no
            | inr above ↦
                let times = mul-le-mul_left {m = q + 1} {n = y / a} a above in
                omega arith
          ];
    }

-- each cursor has a least place
pub some_place : (cursor align : ℕ) → (x : ℕ) × IsLeastPlace cursor align x
some_place cursor align = elim (cases_lt 0 (cursor % alignment align)) [
  | inl past ↦ (cursor + (alignment align - cursor % alignment align), place_past cursor align past)
  | inr none ↦ (
    cursor,
    record {
      multiple = omega arith;
      from = omega arith;
      least = λ y multiple le. le;
    },
  )
]

-- what fits from a cursor fits from a lower one
pub fits_lower : (ps : List Part) (low high : ℕ) (xs : List ℕ) → low ≤ high → Fits ps high xs → Fits ps low xs
fits_lower [] low high [] le fits = fits
fits_lower [] low high (x ∷ xs) le fits = fits
fits_lower (p ∷ ps) low high [] le fits = fits
fits_lower (p ∷ ps) low high (x ∷ xs) le (multiple, from, rest) = (multiple, omega arith, rest)

-- a least place, and least places from its end on, are least places
pub least_cons : (p : Part) (ps : List Part) (cursor x : ℕ) (xs : List ℕ) →
    IsLeastPlace cursor p.1 x → Least ps (x + p.0) xs → Least (p ∷ ps) cursor (x ∷ xs)
least_cons p ps cursor x xs here rest = record {
  fits = (here.multiple, here.from, rest.fits);
  least = λ others fits k. go others k fits;
}
  where
    go : (others : List ℕ) (k : ℕ) → Fits (p ∷ ps) cursor others → get_or (x ∷ xs) k 0 ≤ get_or others k 0
    go [] k none = absurd none
    go (y ∷ ys) zero (multiple, from, more) = here.least y multiple from
    go (y ∷ ys) (suc k) (multiple, from, more) =
        let le = here.least y multiple from in
        rest.least ys (fits_lower ps (x + p.0) (y + p.0) ys (omega arith) more) k

-- no parts have no places
pub least_nil : (cursor : ℕ) → Least [] cursor []
least_nil cursor = record {
  fits = tt;
  least = λ others fits k. omega arith;
}

-- all parts have least places
pub least_places : (ps : List Part) (cursor : ℕ) → (places : List ℕ) × Least ps cursor places
least_places [] cursor = ([], least_nil cursor)
least_places (p ∷ ps) cursor =
    let first = some_place cursor p.1 in
    let rest = least_places ps (first.0 + p.0) in
    (first.0 ∷ rest.0, least_cons p ps cursor first.0 rest.0 first.1 rest.1)

-- the first i parts have their least places, and the cursor is at their end
pub record ArePlaced (parts : List Part) (from i cursor : ℕ) (places : List ℕ) : Type 0 where
  pub count : length places ≡ i
  pub fits : EndsFit parts places i
  pub continues : (rest : List ℕ) → Least (drop i parts) cursor rest → Least parts from (places ++ rest)

-- further places after the least place of part i are least places
pub placed_then : (parts : List Part) (from i cursor x : ℕ) (places rest : List ℕ) (p : Part) →
    i < length parts → ArePlaced parts from i cursor places →
    IsLeastPlace cursor (get_or parts i p).1 x →
    Least (drop (i + 1) parts) (x + (get_or parts i p).0) rest → Least parts from (places ++ x ∷ rest)
placed_then parts from i cursor x places rest p within placed here least =
    placed.continues (x ∷ rest)
    (subst (λ (ps : List Part). Least ps cursor (x ∷ rest)) (sym (drop_more parts i p within))
    (least_cons (get_or parts i p) (drop (i + 1) parts) cursor x rest here least))

-- where part i ends, after the places of the parts before it
pub end_here : (parts : List Part) (i x : ℕ) (places rest : List ℕ) (p : Part) →
    length places ≡ i → i < length parts →
    end_of parts (places ++ x ∷ rest) i ≡ x + (get_or parts i p).0
end_here parts i x places rest p count within =
    let start : get_or (places ++ x ∷ rest) i 0 ≡ x = get_or_at places x rest 0 i count in
    let size = get_or-map (λ (q : Part). q.0) parts i p 0 within in
    omega arith

-- where an earlier part ends
pub end_earlier : (parts : List Part) (k : ℕ) (places rest : List ℕ) → k < length places →
    end_of parts (places ++ rest) k ≡ end_of parts places k
end_earlier parts k places rest lt =
    let start = get_or_append_left places rest 0 k lt in
    omega arith

-- one part more
pub placed_more : (parts : List Part) (from i cursor x : ℕ) (places : List ℕ) (p : Part) →
    i < length parts → ArePlaced parts from i cursor places →
    IsLeastPlace cursor (get_or parts i p).1 x → x + (get_or parts i p).0 < 2 ^ 64 →
    ArePlaced parts from (i + 1) (x + (get_or parts i p).0) (places ++ x ∷ [])
placed_more parts from i cursor x places p within placed here fits = record {
  count = length_push places x ∙ ap (λ n. n + 1) placed.count;
  fits = λ k lt. elim (cases_lt k i) [
    | inl earlier ↦
        let low = placed.fits k earlier in
        let same = end_earlier parts k places (x ∷ []) (omega (arith, placed.count)) in
        omega arith
    | inr other ↦
        let same : k ≡ i = omega arith in
        let ends = end_here parts i x places [] p placed.count within in
        subst (λ j. end_of parts (places ++ x ∷ []) j < 2 ^ 64) (sym same) (omega arith)
  ];
  continues = λ rest least.
      subst (Least parts from) (sym (append_assoc places (x ∷ []) rest))
      (placed_then parts from i cursor x places rest p within placed here least);
}

-- a part whose end at its least place passes a u64 is the first such one
pub overflow_at : (parts : List Part) (from i cursor x : ℕ) (places : List ℕ) (p : Part) →
    i < length parts → ArePlaced parts from i cursor places →
    IsLeastPlace cursor (get_or parts i p).1 x → 2 ^ 64 ≤ x + (get_or parts i p).0 →
    IsPlaceFault parts from (Overflow i)
overflow_at parts from i cursor x places p within placed here past =
    let rest = least_places (drop (i + 1) parts) (x + (get_or parts i p).0) in
    let ends = end_here parts i x places rest.0 p placed.count within in (
      places ++ x ∷ rest.0,
      record {
        within = within;
        least = placed_then parts from i cursor x places rest.0 p within placed here rest.1;
        earlier = λ k lt.
            let low = placed.fits k lt in
            let same = end_earlier parts k places (x ∷ rest.0) (omega (arith, placed.count)) in
            omega arith;
        past = omega arith;
      },
    )

-- a part that has no place in a u64 passes it at its least place
pub no_place_at : (parts : List Part) (from i cursor : ℕ) (places : List ℕ) (p : Part) →
    i < length parts → ArePlaced parts from i cursor places →
    HasNoPlace cursor (get_or parts i p).1 → IsPlaceFault parts from (Overflow i)
no_place_at parts from i cursor places p within placed none =
    let first = some_place cursor (get_or parts i p).1 in
    let past = none first.0 first.1.multiple first.1.from in
    overflow_at parts from i cursor first.0 places p within placed first.1 (omega arith)

-- after the last part nothing is left
pub placed_all : (parts : List Part) (from i cursor : ℕ) (places : List ℕ) → length parts ≤ i →
    ArePlaced parts from i cursor places → Least parts from places
placed_all parts from i cursor places done placed =
    subst (Least parts from) (append-nil places)
    (placed.continues [] (subst (λ (ps : List Part). Least ps cursor []) (sym (drop_all i parts done))
    (least_nil cursor)))

-- the checked sum is the least place, and there is none where it does not fit
pub next_checked : (cursor align a : ℕ) (found : Option ℕ) → a ≡ max align 1 → (cursor % a ≡ 0 → ⊥) →
    SomeIff found (cursor + (a - cursor % a) < 2 ^ 64) (cursor + (a - cursor % a)) →
    MatchOption found (HasNoPlace cursor align) (IsLeastPlace cursor align)
next_checked cursor align a found counted past sum =
    go found (subst (λ n. SomeIff found (cursor + (n - cursor % n) < 2 ^ 64) (cursor + (n - cursor % n))) same sum)
  where
    same : a ≡ alignment align
    same = counted ∙ alignment-max align

    here : IsLeastPlace cursor align (cursor + (alignment align - cursor % alignment align))
    here = place_past cursor align
        (let moved : cursor % alignment align ≡ 0 → ⊥ = subst (λ n. cursor % n ≡ 0 → ⊥) same past in omega arith)

    go : (r : Option ℕ) →
        SomeIff r (cursor + (alignment align - cursor % alignment align) < 2 ^ 64)
        (cursor + (alignment align - cursor % alignment align)) →
        MatchOption r (HasNoPlace cursor align) (IsLeastPlace cursor align)
    go None none = λ y multiple le.
        let least = here.least y multiple le in
        elim (cases_lt y (2 ^ 64)) [
          | inl fits ↦ absurd (none (omega arith))
          | inr high ↦ high
        ]
    go (Some x) some = subst (IsLeastPlace cursor align) (sym some.1) here
