-- The order by ends: names are compared from their last byte on, the greatest first. A name that begins a greater one begins those between,
-- so the names that end with one name are all together, up to it. After it only its equals end with it, in the order of their indexes.
use Rattle.std.proofs.Common.{◌≡◌, ◌<◌, ◌≤◌, ℕ, false, List, [], ◌∷◌, ◌++◌, get_or, length, reverse, refl, sym, ap, ◌∙◌, arith, Ordering}
use Rattle.std.proofs.Common.{true, ◌+◌, set, below_more, get_or-set_other, get_or-set_same, ◌⊎◌, ◌-◌, min, subst, inl, inr}
use Rattle.std.specs.declared.cmp.Ordering.TheVariants.{Less, Equal, Greater}
use Rattle.std.specs.Cmp.Lexicographic.{slice_cmp}
use Rattle.std.specs.Ordering.{is_lt, nat_cmp, ordering_then, MatchOrdering}
use Rattle.std.proofs.lemmas.Bool.{true≢false, cases_eq, cases_lt}
use Rattle.std.proofs.lemmas.Cmp.{nat_list_cmp_total, ranked, tied_itself}
use Rattle.std.proofs.lemmas.List.{reverse-append, reverse-reverse, get_or-map, length-map, get_or_append_left, get_or_push, length_push}
use Rattle.std.proofs.lemmas.List.{length-set}
use Rattle.std.proofs.lemmas.Map.Keys.{ge_from_not_lt}
use Rattle.std.specs.Prelude.{◌==◌, if◌then◌else◌}
use Rattle.std.proofs.lemmas.Bool.Decides.{nat_tests}
use Rattle.elf_object_strings.proofs.Ends.{suffix_from, suffix_none, suffix_same, suffix_trans}
use Rattle.std.specs.List.{range_with_len}
use Rattle.std.proofs.lemmas.List.FromFn.{get_or-range_with_len, length-range_with_len}
use Rattle.elf_object_strings.specs.Sorting.{AreInEndsOrder, indexes_in, names_by_ends, AreRuns, HaveOwners, IsLeastOwner, IsRun}
use Rattle.elf_object_strings.specs.Sorting.{AreNumbered}
use Rattle.elf_object_strings.specs.StringTable.{IsSuffix, is_suffix, AreOwners, IsFirstOfHeld, IsOwner}
use Rattle.elf_object_strings.specs.declared.sorting.Numbered.{Numbered}

-- ---- names that are read from their ends on

abbrev pub IsNotLess : List ℕ → List ℕ → Type 0
IsNotLess a b = is_lt (slice_cmp nat_cmp a b) ≡ false

abbrev pub Begins : List ℕ → List ℕ → Type 0
Begins a b = (rest : List ℕ) × (b ≡ a ++ rest)

-- what comes first decides, and where it is equal what follows
pub step : (x y : ℕ) (o : Ordering) → is_lt (ordering_then (nat_cmp x y) o) ≡ false → (y ≤ x) × (x ≡ y → is_lt o ≡ false)
step x y o is = by (nat_cmp x y) (ranked x y (nat_cmp x y) refl) is where
  by : (r : Ordering) → MatchOrdering r (x < y) (x ≡ y) (y < x) → is_lt (ordering_then r o) ≡ false → (y ≤ x) × (x ≡ y → is_lt o ≡ false)
  by Less lt is_not = absurd (true≢false is_not)
  by Equal equal is_not = (omega arith, λ same. is_not)
  by Greater gt is_not = (omega arith, λ same. absurd (omega arith))

-- a name that begins a greater one begins those between
pub between : (a b c : List ℕ) → IsNotLess b a → IsNotLess c b → Begins a c → Begins a b
between [] b c low high begins = (b, refl)
between (x ∷ a) [] c low high begins = absurd (true≢false low)
between (x ∷ a) (y ∷ b) [] low high begins = absurd (true≢false high)
between (x ∷ a) (y ∷ b) (z ∷ c) low high (rest, is) =
    let head : z ≡ x = cc in
    let tail : c ≡ a ++ rest = cc in
    let lower = step y x (slice_cmp nat_cmp b a) low in
    let upper = step z y (slice_cmp nat_cmp c b) high in
    let below : x ≤ y = lower.0 in
    let above : y ≤ z = upper.0 in
    let one : y ≡ x = omega arith in
    let other : z ≡ y = omega arith in
    let rec = between a b c (lower.1 one) (upper.1 other) (rest, tail) in
    let more : b ≡ a ++ rec.0 = rec.1 in
    (rec.0, cc)

-- a name that is not less than one that it begins is that one
alike : (a c : List ℕ) → IsNotLess a c → Begins a c → c ≡ a
alike [] [] least begins = refl
alike [] (z ∷ c) least begins = absurd (true≢false least)
alike (x ∷ a) [] least (rest, is) = cc
alike (x ∷ a) (z ∷ c) least (rest, is) =
    let head : z ≡ x = cc in
    let tail : c ≡ a ++ rest = cc in
    let both = step x z (slice_cmp nat_cmp a c) least in
    let rest_alike : c ≡ a = alike a c (both.1 (sym head)) (rest, tail) in
    cc

pub begins_reversed : (a b : List ℕ) → IsSuffix a b → Begins (reverse a) (reverse b)
begins_reversed a b (front, is) = (reverse front, ap reverse is ∙ reverse-append front a)

pub suffix_reversed : (a b : List ℕ) → Begins (reverse a) (reverse b) → IsSuffix a b
suffix_reversed a b (rest, is) =
    let turned : reverse (reverse b) ≡ reverse (reverse a ++ rest) = ap reverse is in
    let parts : reverse (reverse a ++ rest) ≡ reverse rest ++ reverse (reverse a) = reverse-append (reverse a) rest in
    (reverse rest, sym (reverse-reverse b) ∙ turned ∙ parts ∙ ap (λ (s : List ℕ). reverse rest ++ s) (reverse-reverse a))

-- ---- names in order

-- the name at one place ends with that at another
abbrev pub Ends : List (List ℕ) → ℕ → ℕ → Type 0
Ends sorted p q = IsSuffix (get_or sorted p []) (get_or sorted q [])

first_part : (o p : Ordering) → is_lt (ordering_then o p) ≡ false → is_lt o ≡ false
first_part Less p is = is
first_part Equal p is = refl
first_part Greater p is = refl

second_part : (o p : Ordering) → o ≡ Equal → is_lt (ordering_then o p) ≡ false → is_lt p ≡ false
second_part Less p equal is = absurd (true≢false (ap is_lt equal))
second_part Equal p equal is = is
second_part Greater p equal is = cc

pub at_ends : (sorted : List (List ℕ)) (indexes : List ℕ) → AreInEndsOrder sorted indexes → (q r : ℕ) → q ≤ r → r < length sorted →
    IsNotLess (reverse (get_or sorted q [])) (reverse (get_or sorted r []))
at_ends sorted indexes ordered q r le lt =
    let by_names = slice_cmp nat_cmp (reverse (get_or sorted q [])) (reverse (get_or sorted r [])) in
    first_part by_names (nat_cmp (get_or indexes r 0) (get_or indexes q 0)) (ordered q r le lt)

-- where a name ends with one after it, so do those between
pub ends_between : (sorted : List (List ℕ)) (indexes : List ℕ) → AreInEndsOrder sorted indexes → (p q r : ℕ) → p ≤ q → q ≤ r →
    r < length sorted →
    Ends sorted r p → Ends sorted r q
ends_between sorted indexes ordered p q r low high lt ends =
    let upper = at_ends sorted indexes ordered p q low (omega arith) in
    let lower = at_ends sorted indexes ordered q r high lt in
    suffix_reversed (get_or sorted r []) (get_or sorted q [])
    (between (reverse (get_or sorted r [])) (reverse (get_or sorted q [])) (reverse (get_or sorted p [])) lower upper
    (begins_reversed (get_or sorted r []) (get_or sorted p []) ends))

-- a name after one that it ends with equals it
pub ends_alike : (sorted : List (List ℕ)) (indexes : List ℕ) → AreInEndsOrder sorted indexes → (p q : ℕ) → p ≤ q → q < length sorted →
    Ends sorted p q → get_or sorted q [] ≡ get_or sorted p []
ends_alike sorted indexes ordered p q le lt ends =
    let a = get_or sorted p [] in
    let c = get_or sorted q [] in
    let least = at_ends sorted indexes ordered p q le lt in
    let turned : reverse c ≡ reverse a = alike (reverse a) (reverse c) least (begins_reversed a c ends) in
    sym (reverse-reverse c) ∙ ap (λ (s : List ℕ). reverse s) turned ∙ reverse-reverse a

-- equal names are in the order of their indexes
pub later_index : (sorted : List (List ℕ)) (indexes : List ℕ) → AreInEndsOrder sorted indexes → (p q : ℕ) → p ≤ q → q < length sorted →
    get_or sorted q [] ≡ get_or sorted p [] → get_or indexes p 0 ≤ get_or indexes q 0
later_index sorted indexes ordered p q le lt same =
    let a = reverse (get_or sorted p []) in
    let c = reverse (get_or sorted q []) in
    let equal : slice_cmp nat_cmp a c ≡ Equal =
    ap (λ (s : List ℕ). slice_cmp nat_cmp a (reverse s)) same ∙ tied_itself nat_list_cmp_total a in
    ge_from_not_lt (get_or indexes q 0) (get_or indexes p 0)
    (second_part (slice_cmp nat_cmp a c) (nat_cmp (get_or indexes q 0) (get_or indexes p 0)) equal (ordered p q le lt))

-- What the code reads of sorted names, by places: names and indexes of a list of pairs are read element by element, and the test of a
-- suffix is that of the definition.

-- what is read past the end
abbrev pub no_name : Numbered
no_name = record { index = 0; end = 0 }

pub length-names_by_ends : (names : List (List ℕ)) (sorted : List Numbered) → length (names_by_ends names sorted) ≡ length sorted
length-names_by_ends names sorted = length-map sorted (λ (it : Numbered). get_or names it.index [])

pub length-indexes_in : (sorted : List Numbered) → length (indexes_in sorted) ≡ length sorted
length-indexes_in sorted = length-map sorted (λ (it : Numbered). it.index)

abbrev pub name_of : List (List ℕ) → List Numbered → ℕ → List ℕ
name_of names sorted q = get_or names (get_or sorted q no_name).index []

pub name_at : (names : List (List ℕ)) (sorted : List Numbered) (q : ℕ) → q < length sorted →
    get_or (names_by_ends names sorted) q [] ≡ name_of names sorted q
name_at names sorted q lt = get_or-map (λ (it : Numbered). get_or names it.index []) sorted q no_name [] lt

pub index_at : (sorted : List Numbered) (q : ℕ) → q < length sorted → get_or (indexes_in sorted) q 0 ≡ (get_or sorted q no_name).index
index_at sorted q lt = get_or-map (λ (it : Numbered). it.index) sorted q no_name 0 lt

pub suffix_at : (names : List (List ℕ)) (sorted : List Numbered) (p q : ℕ) → p < length sorted → q < length sorted →
    is_suffix (name_of names sorted p) (name_of names sorted q) ≡ true → Ends (names_by_ends names sorted) p q
suffix_at names sorted p q p_lt q_lt is =
    let found = suffix_from (name_of names sorted p) (name_of names sorted q) is in
    (found.0, name_at names sorted q q_lt ∙ found.1 ∙ ap (λ (n : List ℕ). found.0 ++ n) (sym (name_at names sorted p p_lt)))

pub no_suffix_at : (names : List (List ℕ)) (sorted : List Numbered) (p q : ℕ) → p < length sorted → q < length sorted →
    is_suffix (name_of names sorted p) (name_of names sorted q) ≡ false → ¬ Ends (names_by_ends names sorted) p q
no_suffix_at names sorted p q p_lt q_lt is_not (front, is) =
    suffix_none (name_of names sorted p) (name_of names sorted q) is_not
    (front, sym (name_at names sorted q q_lt) ∙ is ∙ ap (λ (n : List ℕ). front ++ n) (name_at names sorted p p_lt))

-- Runs of names that end with one name. The run of a name ends at it, and is joined of the runs that end right above it. So from each run
-- met on the way back only the owner of its last name is needed. The least of these is the owner; if no run is met, the name's own index is
-- (`owner_found`).

-- ---- the runs

-- where the names from a place on end with a name, so do those of the run that ends before them
pub run_more : (sorted : List (List ℕ)) (position start next : ℕ) → 0 < start → start ≤ position → IsRun sorted (start - 1) next →
    Ends sorted position (start - 1) →
    ((r : ℕ) → start ≤ r → r ≤ position → Ends sorted position r) →
    (r : ℕ) → next ≤ r → r ≤ position → Ends sorted position r
run_more sorted position start next some low run here ends r from to =
    let last = start - 1 in
    elim (cases_lt r start) [
      | inl below ↦ (let inside : Ends sorted last r = run.ends r from (omega arith) in
          suffix_trans (get_or sorted position []) (get_or sorted last []) (get_or sorted r []) here inside)
      | inr within ↦ ends r within to
    ]

-- where the name before a start does not end with a name, none before it does
pub none_before : (sorted : List (List ℕ)) (indexes : List ℕ) → AreInEndsOrder sorted indexes → (position start : ℕ) → start ≤ position →
    position < length sorted →
    (0 < start → ¬ Ends sorted position (start - 1)) →
    (r : ℕ) → r < start → ¬ Ends sorted position r
none_before sorted indexes ordered position start low within none r before ends =
    none (omega arith) (ends_between sorted indexes ordered r (start - 1) position (omega arith) (omega arith) within ends)

-- ---- the owners

-- one more run: the owner of its last name is met
follow_by : (names sorted : List (List ℕ)) (position start owner next met new : ℕ) → 0 < start → start ≤ position →
    IsRun sorted (start - 1) next →
    Ends sorted position (start - 1) → IsOwner names (get_or sorted (start - 1) []) met →
    (start < position → IsLeastOwner names sorted position start owner) →
    ((new ≡ met) ⊎ ((new ≡ owner) × (start < position))) → new ≤ met → (start < position → new ≤ owner) →
    IsLeastOwner names sorted position next new
follow_by names sorted position start owner next met new some low run here owned before one below_met below_owner = record {
  first = elim one [
    | inl is ↦ subst (λ i. IsFirstOfHeld names i) (sym is) owned.first
    | inr (is, lt) ↦ subst (λ i. IsFirstOfHeld names i) (sym is) (before lt).first
  ];
  ends = elim one [
    | inl is ↦ subst (λ i. IsSuffix (get_or sorted position []) (get_or names i [])) (sym is)
        (suffix_trans (get_or sorted position []) (get_or sorted (start - 1) []) (get_or names met []) here owned.ends)
    | inr (is, lt) ↦ subst (λ i. IsSuffix (get_or sorted position []) (get_or names i [])) (sym is) (before lt).ends
  ];
  least = λ r f from to first ends. elim (cases_lt r start) [
    | inl below ↦ (let inside : Ends sorted (start - 1) r = run.ends r from (omega arith) in
        let chain = suffix_trans (get_or sorted (start - 1) []) (get_or sorted r []) (get_or names f []) inside ends in
        let at : met ≤ f = owned.least f first chain in
        omega arith)
    | inr within ↦ (let at : owner ≤ f = (before (omega arith)).least r f within to first ends in
        let under : new ≤ owner = below_owner (omega arith) in omega arith)
  ];
}

pub follow_one : (names sorted : List (List ℕ)) (position start owner next met : ℕ) → 0 < start → start ≤ position →
    IsRun sorted (start - 1) next →
    Ends sorted position (start - 1) → IsOwner names (get_or sorted (start - 1) []) met →
    (start < position → IsLeastOwner names sorted position start owner) →
    IsLeastOwner names sorted position next (if start == position then met else min owner met)
follow_one names sorted position start owner next met some low run here owned before =
    follow_by names sorted position start owner next met (if start == position then met else min owner met) some low run here owned before
    (by_place (cases_lt start position)) (grind (arith, nat_tests)) (λ lt. grind (arith, nat_tests))
  where
    by_place : (start < position) ⊎ (position ≤ start) → ((if start == position then met else min owner met) ≡ met) ⊎
        (((if start == position then met else min owner met) ≡ owner) × (start < position))
    by_place (inl lt) = elim (cases_lt owner met) [
      | inl less ↦ inr (grind (arith, nat_tests), lt)
      | inr more ↦ inl (grind (arith, nat_tests))
    ]
    by_place (inr ge) = inl (grind (arith, nat_tests))

-- ---- the owner of a name: those that end with it are in its run, or after it and equal it

-- where a name of the list is among the sorted ones
pub place_of : (names sorted : List (List ℕ)) (indexes : List ℕ) → AreNumbered names sorted indexes → (f : ℕ) → f < length names →
    (q : ℕ) × (q < length sorted) × (get_or indexes q 0 ≡ f) × (get_or sorted q [] ≡ get_or names f [])
place_of names sorted indexes numbered f lt =
    let found = numbered.each f lt in
    (found.0, found.1, found.2, sym (numbered.named found.0 found.1) ∙ ap (λ i. get_or names i []) found.2)

-- nothing is met: the name is kept, and first occurs at its index
pub owner_of_itself : (names sorted : List (List ℕ)) (indexes : List ℕ) → AreNumbered names sorted indexes → AreInEndsOrder sorted indexes →
    (position : ℕ) →
    position < length sorted → IsRun sorted position position → IsOwner names (get_or sorted position []) (get_or indexes position 0)
owner_of_itself names sorted indexes numbered ordered position within run = record {
  first = record {
    below = numbered.below position within;
    kept = λ j lt ends. following j lt (subst (λ n. IsSuffix n (get_or names j [])) here ends);
  };
  ends = suffix_same (get_or sorted position []) (get_or names (get_or indexes position 0) []) here;
  least = λ j first ends. (following j first.below ends).1;
} where
  here : get_or names (get_or indexes position 0) [] ≡ get_or sorted position []
  here = numbered.named position within

  following : (j : ℕ) → j < length names → IsSuffix (get_or sorted position []) (get_or names j []) →
      (get_or names j [] ≡ get_or names (get_or indexes position 0) []) × (get_or indexes position 0 ≤ j)
  following j lt ends =
      let (q, q_lt, q_is, q_name) = place_of names sorted indexes numbered j lt in
      let at : Ends sorted position q = subst (λ n. IsSuffix (get_or sorted position []) n) (sym q_name) ends in
      elim (cases_lt q position) [
        | inl before ↦ absurd (run.none q before at)
        | inr after ↦ (let same = ends_alike sorted indexes ordered position q after q_lt at in
            let later = later_index sorted indexes ordered position q after q_lt same in
            (sym q_name ∙ same ∙ sym here, subst (λ i. get_or indexes position 0 ≤ i) q_is later))
      ]

-- some are met: the least of their owners
pub owner_of_run : (names sorted : List (List ℕ)) (indexes : List ℕ) → AreNumbered names sorted indexes → AreInEndsOrder sorted indexes →
    (position start owner : ℕ) →
    position < length sorted → IsRun sorted position start → start < position → IsLeastOwner names sorted position start owner →
    IsOwner names (get_or sorted position []) owner
owner_of_run names sorted indexes numbered ordered position start owner within run some met = record {
  first = met.first;
  ends = met.ends;
  least = least;
} where
  before : Ends sorted position (position - 1)
  before = run.ends (position - 1) (omega arith) (omega arith)

  least : (f : ℕ) → IsFirstOfHeld names f → IsSuffix (get_or sorted position []) (get_or names f []) → owner ≤ f
  least f first ends =
      let (q, q_lt, q_is, q_name) = place_of names sorted indexes numbered f first.below in
      let at : Ends sorted position q = subst (λ n. IsSuffix (get_or sorted position []) n) (sym q_name) ends in
      elim (cases_lt q position) [
        | inl lt ↦ elim (cases_lt q start) [
          | inl out ↦ absurd (run.none q out at)
          | inr in_run ↦ met.least q f in_run lt first (suffix_same (get_or sorted q []) (get_or names f []) (sym q_name))
        ]
        | inr after ↦ (let same : get_or names f [] ≡ get_or sorted position [] =
            sym q_name ∙ ends_alike sorted indexes ordered position q after q_lt at in
            let last = position - 1 in
            let j = get_or indexes last 0 in
            let named : get_or names j [] ≡ get_or sorted last [] = numbered.named last (omega arith) in
            let over : IsSuffix (get_or sorted position []) (get_or names j []) =
            subst (λ n. IsSuffix (get_or sorted position []) n) (sym named) before in
            let beyond : IsSuffix (get_or names f []) (get_or names j []) =
            subst (λ n. IsSuffix n (get_or names j [])) (sym same) over in
            let kept = first.kept j (numbered.below last (omega arith)) beyond in
            let equal : get_or names j [] ≡ get_or names f [] = kept.0 in
            met.least last f (omega arith) (omega arith) first
            (suffix_same (get_or sorted last []) (get_or names f []) (sym equal ∙ named)))
      ]

-- what is met of a run is all that its last name needs
pub owner_found : (names sorted : List (List ℕ)) (indexes : List ℕ) → AreNumbered names sorted indexes → AreInEndsOrder sorted indexes →
    (position start owner : ℕ) →
    position < length sorted → IsRun sorted position start → (start ≡ position → owner ≡ get_or indexes position 0) →
    (start < position → IsLeastOwner names sorted position start owner) → IsOwner names (get_or sorted position []) owner
owner_found names sorted indexes numbered ordered position start owner within run own met =
    let low : start ≤ position = run.low in
    elim (cases_lt start position) [
      | inl some ↦ owner_of_run names sorted indexes numbered ordered position start owner within run some (met some)
      | inr none ↦ (let here : start ≡ position = omega arith in
          subst (λ i. IsOwner names (get_or sorted position []) i) (sym (own here))
          (owner_of_itself names sorted indexes numbered ordered position within (subst (λ i. IsRun sorted position i) here run)))
    ]

-- ---- one name after the other

pub runs_more : (sorted : List (List ℕ)) (starts : List ℕ) (position start : ℕ) → AreRuns sorted starts position →
    IsRun sorted position start →
    AreRuns sorted (starts ++ (start ∷ [])) (position + 1)
runs_more sorted starts position start runs run = record {
  as_many = length_push starts start ∙ ap (λ n. n + 1) runs.as_many;
  each = below_more (λ q. IsRun sorted q (get_or (starts ++ (start ∷ [])) q 0)) position
      (λ q lt. (let many : length starts ≡ position = runs.as_many in
      subst (λ s. IsRun sorted q s) (sym (get_or_append_left starts (start ∷ []) 0 q (omega arith))) (runs.each q lt)))
      (subst (λ s. IsRun sorted position s) (sym (get_or_push starts start 0 position runs.as_many)) run);
}

pub owners_more : (names sorted : List (List ℕ)) (indexes owners : List ℕ) (position owner : ℕ) → AreNumbered names sorted indexes →
    position < length sorted →
    HaveOwners names sorted indexes owners position → IsOwner names (get_or sorted position []) owner →
    HaveOwners names sorted indexes (set owners (get_or indexes position 0) owner) (position + 1)
owners_more names sorted indexes owners position owner numbered within owned new = record {
  all = length-set owners (get_or indexes position 0) owner ∙ owned.all;
  each = below_more (λ q. IsOwner names (get_or sorted q []) (get_or (set owners (get_or indexes position 0) owner) (get_or indexes q 0) 0))
      position earlier
      (subst (λ o. IsOwner names (get_or sorted position []) o) (sym (written (get_or indexes position 0) refl)) new);
  rest = λ q more lt.
      (let many : length indexes ≡ length names = numbered.all in
      let as_many : length sorted ≡ length names = numbered.as_many in
      let other : get_or indexes q 0 ≡ get_or indexes position 0 → ⊥ =
      λ same. numbered.once position q 0 (omega arith) (omega arith) (sym same) in
      get_or-set_other owners (get_or indexes position 0) (get_or indexes q 0) owner 0 other ∙ owned.rest q (omega arith) lt);
} where
  written : (i : ℕ) → i ≡ get_or indexes position 0 → get_or (set owners (get_or indexes position 0) owner) i 0 ≡ owner
  written i is =
      let below : get_or indexes position 0 < length names = numbered.below position within in
      let all : length owners ≡ length names = owned.all in
      ap (λ j. get_or (set owners (get_or indexes position 0) owner) j 0) is
      ∙ get_or-set_same owners (get_or indexes position 0) owner 0 (omega arith)

  -- an index that occurs twice has the same name
  earlier : (q : ℕ) → q < position →
      IsOwner names (get_or sorted q []) (get_or (set owners (get_or indexes position 0) owner) (get_or indexes q 0) 0)
  earlier q lt = elim (cases_eq (get_or indexes q 0) (get_or indexes position 0)) [
    | inl same ↦ (let name : get_or sorted q [] ≡ get_or sorted position [] =
        sym (numbered.named q (omega arith)) ∙ ap (λ i. get_or names i []) same ∙ numbered.named position within in
        subst (λ o. IsOwner names (get_or sorted q []) o) (sym (written (get_or indexes q 0) same))
        (subst (λ n. IsOwner names n owner) (sym name) new))
    | inr other ↦ subst (λ o. IsOwner names (get_or sorted q []) o)
        (sym (get_or-set_other owners (get_or indexes position 0) (get_or indexes q 0) owner 0 other)) (owned.each q lt)
  ]

-- each name as its own owner
pub owners_none : (names sorted : List (List ℕ)) (indexes : List ℕ) → AreNumbered names sorted indexes →
    HaveOwners names sorted indexes (range_with_len 0 (length sorted)) 0
owners_none names sorted indexes numbered = record {
  all = length-range_with_len 0 (length sorted) ∙ numbered.as_many;
  each = λ q lt. absurd (omega arith);
  rest = λ q from lt.
      (let below = numbered.below q lt in
      let as_many = numbered.as_many in
      get_or-range_with_len 0 (length sorted) (get_or indexes q 0) 0 (omega arith) ∙ omega arith);
}

pub owners_all : (names sorted : List (List ℕ)) (indexes owners : List ℕ) (position : ℕ) → AreNumbered names sorted indexes →
    length sorted ≤ position →
    HaveOwners names sorted indexes owners position → AreOwners names owners
owners_all names sorted indexes owners position numbered all owned = record {
  all = owned.all;
  each = λ i lt.
      (let (q, q_lt, q_is, q_name) = place_of names sorted indexes numbered i lt in
      subst (λ n. IsOwner names n (get_or owners i 0)) q_name
      (subst (λ j. IsOwner names (get_or sorted q []) (get_or owners j 0)) q_is (owned.each q (omega arith))));
}
