-- Sorted names, the greatest first, and what some of them end with. Those that end with one name are one after the other (`together`). So
-- the last of them decides the place of a name (`range_order`): the sorted names before it are greater than the name, read from their last
-- bytes on, and those after it end with no name that is. And one name ends with another exactly if its last one is one of the other's
-- (`range_tail`, `range_within`).
use Rattle.std.proofs.Common.{◌≡◌, ◌<◌, ◌≤◌, ◌+◌, ◌-◌, ◌⊎◌, ℕ, false, List, [], ◌∷◌, ◌++◌, get_or, length, reverse, set, refl, sym, ap}
use Rattle.std.proofs.Common.{subst, ◌∙◌, inl, inr, arith, Ordering, length-append, length-set, get_or-set_other, get_or-set_same}
use Rattle.std.specs.declared.cmp.Ordering.TheVariants.{Less, Equal, Greater}
use Rattle.std.specs.Cmp.{nat_cmp_is}
use Rattle.std.specs.Cmp.Lexicographic.{slice_cmp}
use Rattle.std.specs.Ordering.{is_lt, nat_cmp, ordering_then, ordering_reverse, MatchOrdering}
use Rattle.std.proofs.lemmas.Bool.{true≢false, cases_eq, cases_lt, cases_order}
use Rattle.std.proofs.lemmas.List.{get_or_append_left, get_or_past, get_or_push, get_or-reverse, length-reverse}
use Rattle.std.proofs.lemmas.Cmp.{nat_list_cmp_total, ranked}
use Rattle.elf_object_strings.proofs.Ends.{longer, shorter, suffix_fits, suffix_trans}
use Rattle.elf_object_strings.proofs.EndsOrder.{Begins, IsNotLess, at_ends, length-names_by_ends, name_at, no_name, begins_reversed}
use Rattle.elf_object_strings.proofs.EndsOrder.{between, step, suffix_reversed}
use Rattle.elf_object_strings.specs.Leaders.{AreBetween, AreLasts, AreLed, IsBetween, IsLastWith, IsTailByLeaders, StandTogether, no_range}
use Rattle.elf_object_strings.specs.Leaders.{range_of}
use Rattle.elf_object_strings.specs.declared.sorting.Numbered.{Numbered}
use Rattle.elf_object_strings.specs.declared.name_list.LeaderRange.{LeaderRange}
use Rattle.elf_object_strings.specs.Sorting.{AreInEndsOrder, names_by_ends}
use Rattle.elf_object_strings.specs.StringTable.{IsSuffix}

-- the second names are the first ones the other way round
pub record AreTurned (leaders turned : List (List ℕ)) : Type 0 where
  pub all : length turned ≡ length leaders
  pub each : (i : ℕ) → i < length leaders → get_or turned i [] ≡ get_or leaders (length leaders - 1 - i) []

-- ---- a name and those that it begins

join : (x y : ℕ) (o : Ordering) → y ≤ x → (x ≡ y → is_lt o ≡ false) → is_lt (ordering_then (nat_cmp x y) o) ≡ false
join x y o le same = by (nat_cmp x y) (ranked x y (nat_cmp x y) refl) where
  by : (r : Ordering) → MatchOrdering r (x < y) (x ≡ y) (y < x) → is_lt (ordering_then r o) ≡ false
  by Less lt = absurd (omega arith)
  by Equal equal = same equal
  by Greater gt = refl

-- what is not less than a list is not less than what begins it
shorter_below : (a b c : List ℕ) → Begins a c → IsNotLess b c → IsNotLess b a
shorter_below [] [] c begins not_less = refl
shorter_below [] (y ∷ b) c begins not_less = refl
shorter_below (x ∷ a) b [] (rest, is) not_less = cc
shorter_below (x ∷ a) [] (z ∷ c) begins not_less = absurd (true≢false not_less)
shorter_below (x ∷ a) (y ∷ b) (z ∷ c) (rest, is) not_less =
    let head : z ≡ x = cc in
    let tail : c ≡ a ++ rest = cc in
    let both = step y z (slice_cmp nat_cmp b c) not_less in
    let below : z ≤ y = both.0 in
    join y x (slice_cmp nat_cmp b a) (omega arith) (λ same. shorter_below a b c (rest, tail) (both.1 (omega arith)))

-- what begins with a list that is not less than another one is not less either
longer_above : (a b c : List ℕ) → Begins a c → IsNotLess a b → IsNotLess c b
longer_above a [] [] begins not_less = refl
longer_above a [] (z ∷ c) begins not_less = refl
longer_above [] (y ∷ b) c begins not_less = absurd (true≢false not_less)
longer_above (x ∷ a) (y ∷ b) [] (rest, is) not_less = cc
longer_above (x ∷ a) (y ∷ b) (z ∷ c) (rest, is) not_less =
    let head : z ≡ x = cc in
    let tail : c ≡ a ++ rest = cc in
    let both = step x y (slice_cmp nat_cmp a b) not_less in
    let below : y ≤ x = both.0 in
    join z y (slice_cmp nat_cmp c b) (omega arith) (λ same. longer_above a b c (rest, tail) (both.1 (omega arith)))

-- ---- sorted names

-- those between two that end with a name end with it too
pub together : (sorted : List (List ℕ)) (indexes : List ℕ) → AreInEndsOrder sorted indexes → StandTogether sorted
together sorted indexes ordered name p q r low high lt first last =
    let upper = at_ends sorted indexes ordered p q low (omega arith) in
    let lower = at_ends sorted indexes ordered q r high lt in
    let least = shorter_below (reverse name) (reverse (get_or sorted q [])) (reverse (get_or sorted r []))
    (begins_reversed name (get_or sorted r []) last) lower in
    suffix_reversed name (get_or sorted q [])
    (between (reverse name) (reverse (get_or sorted q [])) (reverse (get_or sorted p [])) least upper
    (begins_reversed name (get_or sorted p []) first))

-- two names that a third one ends with: the shorter one ends the longer one
pub suffix_of_both : (a b c : List ℕ) → IsSuffix a c → IsSuffix b c → length a ≤ length b → IsSuffix a b
suffix_of_both a b c (front, is) (more, has) le = by front more (sym is ∙ has) where
  by : (front more : List ℕ) → front ++ a ≡ more ++ b → IsSuffix a b
  by front [] same = (front, sym same)
  by [] (y ∷ more) same =
      let long : length a ≡ length ((y ∷ more) ++ b) = ap length same in
      let sum : length ((y ∷ more) ++ b) ≡ length (y ∷ more) + length b = length-append (y ∷ more) b in
      absurd (omega arith)
  by (x ∷ front) (y ∷ more) same = by front more cc

-- of two names the one whose last name is later is less
less_name : (sorted : List (List ℕ)) (indexes : List ℕ) → AreInEndsOrder sorted indexes → (a b : List ℕ) (p q : ℕ) → q < p →
    IsLastWith sorted a p → IsLastWith sorted b q → slice_cmp nat_cmp (reverse a) (reverse b) ≡ Less
less_name sorted indexes ordered a b p q before own other = by (slice_cmp nat_cmp (reverse a) (reverse b)) refl where
  not : IsNotLess (reverse a) (reverse b) → ⊥
  not not_less =
      let last = get_or sorted p [] in
      let above = longer_above (reverse a) (reverse b) (reverse last) (begins_reversed a last own.ends) not_less in
      let upper = at_ends sorted indexes ordered q p (omega arith) own.within in
      other.none p before own.within
      (suffix_reversed b last
      (between (reverse b) (reverse last) (reverse (get_or sorted q [])) above upper (begins_reversed b (get_or sorted q []) other.ends)))

  by : (o : Ordering) → slice_cmp nat_cmp (reverse a) (reverse b) ≡ o → o ≡ Less
  by Less is = refl
  by Equal is = absurd (not (ap is_lt is))
  by Greater is = absurd (not (ap is_lt is))

-- the other way round they stand together too
pub together_turned : (leaders turned : List (List ℕ)) → AreTurned leaders turned → StandTogether leaders → StandTogether turned
together_turned leaders turned by stand name p q r low high lt first last =
    let n = length leaders in
    let all : length turned ≡ n = by.all in
    let ends = stand name (n - 1 - r) (n - 1 - q) (n - 1 - p) (omega arith) (omega arith) (omega arith)
    (subst (IsSuffix name) (by.each r (omega arith)) last) (subst (IsSuffix name) (by.each p (omega arith)) first) in
    subst (IsSuffix name) (sym (by.each q (omega arith))) ends

-- ---- the leaders of one name

-- the first and the last of some sorted names that end with a name, each plus 1
pub record IsRangeOf (sorted : List (List ℕ)) (name : List ℕ) (range : LeaderRange) : Type 0 where
  pub last : IsLastWith sorted name (range.last - 1)
  pub some : 0 < range.last
  pub from : 0 < range.first
  pub first : IsSuffix name (get_or sorted (range.first - 1) [])
  pub none : (r : ℕ) → r < range.first - 1 → ¬ IsSuffix name (get_or sorted r [])

-- found from both sides
pub range_found : (sorted turned : List (List ℕ)) → AreTurned sorted turned → (name : List ℕ) (first last : ℕ) → 0 < first → 0 < last →
    IsLastWith turned name (first - 1) → IsLastWith sorted name (last - 1) →
    (range : LeaderRange) → range.last ≡ last → range.first ≡ length sorted - first + 1 → IsRangeOf sorted name range
range_found sorted turned by name first last first_some last_some turned_last sorted_last range last_is first_is =
    let n = length sorted in
    let all : length turned ≡ n = by.all in
    let within = turned_last.within in
    let at : n - 1 - (first - 1) ≡ range.first - 1 = omega arith in
    record {
      last = subst (λ (k : ℕ). IsLastWith sorted name (k - 1)) (sym last_is) sorted_last;
      some = omega arith;
      from = omega arith;
      first = subst (λ (k : ℕ). IsSuffix name (get_or sorted k [])) at
          (subst (IsSuffix name) (by.each (first - 1) (omega arith)) turned_last.ends);
      none = λ r below ends.
          (let turned_at : n - 1 - (n - 1 - r) ≡ r = omega arith in
          turned_last.none (n - 1 - r) (omega arith) (omega arith)
          (subst (IsSuffix name) (sym (by.each (n - 1 - r) (omega arith)))
          (subst (λ (k : ℕ). IsSuffix name (get_or sorted k [])) (sym turned_at) ends)));
    }

-- names are in the order of their last names, the later one first, and of their lengths
range_order : (sorted : List (List ℕ)) (indexes : List ℕ) → AreInEndsOrder sorted indexes → (a b : List ℕ) (own other : LeaderRange) →
    IsRangeOf sorted a own → IsRangeOf sorted b other →
    slice_cmp nat_cmp (reverse a) (reverse b) ≡ ordering_then (nat_cmp other.last own.last) (nat_cmp (length a) (length b))
range_order sorted indexes ordered a b own other first second =
    let own_some = first.some in
    let other_some = second.some in
    elim (cases_order own.last other.last) [
      | inl same ↦ (let there : IsSuffix a (get_or sorted (other.last - 1) []) =
          subst (λ (k : ℕ). IsSuffix a (get_or sorted (k - 1) [])) same first.last.ends in
          rw (sym (nat_cmp_is other.last own.last Equal (sym same))) (by_length there (cases_lt (length b) (length a))))
      | inr unlike ↦ elim unlike [
        | inl below ↦ rw (sym (nat_cmp_is other.last own.last Greater below))
            (nat_list_cmp_total.antisymm (reverse a) (reverse b)
            ∙ ap ordering_reverse
            (less_name sorted indexes ordered b a (other.last - 1) (own.last - 1) (omega arith) second.last first.last))
        | inr above ↦ rw (sym (nat_cmp_is other.last own.last Less above))
            (less_name sorted indexes ordered a b (own.last - 1) (other.last - 1) (omega arith) first.last second.last)
      ]
    ]
  where
    by_length : IsSuffix a (get_or sorted (other.last - 1) []) → (length b < length a) ⊎ (length a ≤ length b) →
        slice_cmp nat_cmp (reverse a) (reverse b) ≡ nat_cmp (length a) (length b)
    by_length there (inl less) = longer b a (suffix_of_both b a (get_or sorted (other.last - 1) []) second.last.ends there (omega arith))
    by_length there (inr more) = shorter a b (suffix_of_both a b (get_or sorted (other.last - 1) []) there second.last.ends more)

-- one ends with the other where its last name is one of the other's
range_tail : (sorted : List (List ℕ)) → StandTogether sorted → (a b : List ℕ) (own other : LeaderRange) → IsRangeOf sorted a own →
    IsRangeOf sorted b other → IsTailByLeaders a own b other → IsSuffix a b
range_tail sorted stand a b own other first second within =
    let last = second.last.within in
    let from = first.from in
    let own_within = first.last.within in
    let low = within.first in
    let high = within.last in
    let there = stand a (own.first - 1) (other.last - 1) (own.last - 1) (omega arith)
    (omega arith) own_within first.first first.last.ends in
    suffix_of_both a b (get_or sorted (other.last - 1) []) there second.last.ends within.fits

-- and nowhere else
range_within : (sorted : List (List ℕ)) (a b : List ℕ) (own other : LeaderRange) → IsRangeOf sorted a own → IsRangeOf sorted b other →
    IsSuffix a b →
    IsTailByLeaders a own b other
range_within sorted a b own other first second ends =
    let there = suffix_trans a b (get_or sorted (other.last - 1) []) ends second.last.ends in
    let last = second.last.within in
    let some = second.some in
    record {
      first = elim (cases_lt (other.last - 1) (own.first - 1)) [
        | inl before ↦ absurd (first.none (other.last - 1) before there)
        | inr after ↦ (let from = first.from in omega arith)
      ];
      last = elim (cases_lt (own.last - 1) (other.last - 1)) [
        | inl after ↦ absurd (first.last.none (other.last - 1) after last there)
        | inr before ↦ (let own_some = first.some in omega arith)
      ];
      fits = suffix_fits a b ends;
    }

pub led_by : (sorted : List (List ℕ)) (indexes : List ℕ) → AreInEndsOrder sorted indexes →
    (names : List (List ℕ)) (ranges : List LeaderRange) →
    ((i : ℕ) → 0 < (range_of ranges i).last → IsRangeOf sorted (get_or names i []) (range_of ranges i)) → AreLed names ranges
led_by sorted indexes ordered names ranges each = record {
  order = λ i j some other_some. range_order sorted indexes ordered _ _ _ _ (each i some) (each j other_some);
  tails = λ i j some other_some within. range_tail sorted (together sorted indexes ordered) _ _ _ _ (each i some)
      (each j other_some) within;
  only = λ i j some other_some ends. range_within sorted _ _ _ _ (each i some) (each j other_some) ends;
}

-- no leader is known
pub led_none : (names : List (List ℕ)) → AreLed names []
led_none names = record {
  order = λ i j some other_some. absurd (omega arith);
  tails = λ i j some other_some within. absurd (omega arith);
  only = λ i j some other_some ends. absurd (omega arith);
}

-- ---- one last leader after the other

pub lasts_set : (leaders names : List (List ℕ)) (lasts : List ℕ) (index last : ℕ) → AreLasts leaders names lasts →
    (0 < last → IsLastWith leaders (get_or names index []) (last - 1)) → AreLasts leaders names (set lasts index last)
lasts_set leaders names lasts index last are new i some = elim (cases_eq i index) [
  | inl same ↦ (let at : get_or (set lasts index last) i 0 ≡ get_or (set lasts index last) index 0 =
      ap (λ (k : ℕ). get_or (set lasts index last) k 0) same in
      elim (cases_lt index (length lasts)) [
        | inl within ↦ (let is : get_or (set lasts index last) i 0 ≡ last = at ∙ get_or-set_same lasts index last 0 within in
            subst (λ (k : ℕ). IsLastWith leaders (get_or names i []) (k - 1)) (sym is)
            (subst (λ (k : ℕ). IsLastWith leaders (get_or names k []) (last - 1)) (sym same) (new (subst (λ (k : ℕ). 0 < k) is some))))
        | inr past ↦ (let long = length-set lasts index last in
            let is : get_or (set lasts index last) i 0 ≡ 0 = get_or_past (set lasts index last) i 0 (omega arith) in
            absurd (omega arith))
      ])
  | inr other ↦ (let is : get_or (set lasts index last) i 0 ≡ get_or lasts i 0 = get_or-set_other lasts index i last 0 other in
      subst (λ (k : ℕ). IsLastWith leaders (get_or names i []) (k - 1)) (sym is) (are i (subst (λ (k : ℕ). 0 < k) is some)))
]

-- a number of a last leader is at most the number of leaders
pub lasts_fit : (leaders names : List (List ℕ)) (lasts : List ℕ) → AreLasts leaders names lasts → (i : ℕ) →
    get_or lasts i 0 ≤ length leaders
lasts_fit leaders names lasts are i = elim (cases_lt 0 (get_or lasts i 0)) [
  | inl some ↦ (let within = (are i some).within in omega arith)
  | inr none ↦ omega arith
]

-- ---- the ranges of names, one after the other

pub turned_names : (names : List (List ℕ)) (sorted : List Numbered) →
    AreTurned (names_by_ends names sorted) (names_by_ends names (reverse sorted))
turned_names names sorted =
    let many : length (names_by_ends names sorted) ≡ length sorted = length-names_by_ends names sorted in
    let turned : length (names_by_ends names (reverse sorted)) ≡ length (reverse sorted) = length-names_by_ends names (reverse sorted) in
    let same : length (reverse sorted) ≡ length sorted = length-reverse sorted in
    record {
      all = turned ∙ same ∙ sym many;
      each = λ i lt.
          (let at : length sorted - 1 - i ≡ length (names_by_ends names sorted) - 1 - i = ap (λ (n : ℕ). n - 1 - i) (sym many) in
          name_at names (reverse sorted) i (omega arith)
          ∙ ap (λ (it : Numbered). get_or names it.index []) (get_or-reverse sorted i no_name (omega arith))
          ∙ sym (name_at names sorted (length sorted - 1 - i) (omega arith))
          ∙ ap (λ (k : ℕ). get_or (names_by_ends names sorted) k []) at);
    }

pub ranges_more : (firsts lasts : List ℕ) (count : ℕ) (ranges : List LeaderRange) (range : LeaderRange) →
    AreBetween firsts lasts count ranges →
    (0 < range.last → IsBetween (get_or firsts (length ranges) 0) (get_or lasts (length ranges) 0) count range) →
    AreBetween firsts lasts count (ranges ++ (range ∷ []))
ranges_more firsts lasts count ranges range are new q some = elim (cases_lt q (length ranges)) [
  | inl below ↦
      (let is : range_of (ranges ++ (range ∷ [])) q ≡ range_of ranges q = get_or_append_left ranges (range ∷ []) no_range q below in
      subst (IsBetween (get_or firsts q 0) (get_or lasts q 0) count) (sym is) (are q (subst (λ (r : LeaderRange). 0 < r.last) is some)))
  | inr beyond ↦ elim (cases_lt (length ranges) q) [
    | inl past ↦ (let long : length (ranges ++ (range ∷ [])) ≡ length ranges + 1 = length-append ranges (range ∷ []) in
        let is : range_of (ranges ++ (range ∷ [])) q ≡ no_range = get_or_past (ranges ++ (range ∷ [])) q no_range (omega arith) in
        let none : (range_of (ranges ++ (range ∷ [])) q).last ≡ 0 = ap (λ (r : LeaderRange). r.last) is in
        absurd (omega arith))
    | inr here ↦ (let same : q ≡ length ranges = omega arith in
        let is : range_of (ranges ++ (range ∷ [])) q ≡ range = get_or_push ranges range no_range q (sym same) in
        subst (IsBetween (get_or firsts q 0) (get_or lasts q 0) count) (sym is)
        (subst (λ (k : ℕ). IsBetween (get_or firsts k 0) (get_or lasts k 0) count range) (sym same)
        (new (subst (λ (r : LeaderRange). 0 < r.last) is some))))
  ]
]

-- the ranges between leaders that were found from both sides
pub ranges_found : (names : List (List ℕ)) (sorted : List Numbered) (firsts lasts : List ℕ) (ranges : List LeaderRange) →
    AreLasts (names_by_ends names (reverse sorted)) names firsts → AreLasts (names_by_ends names sorted) names lasts →
    AreBetween firsts lasts (length sorted) ranges → (q : ℕ) → 0 < (range_of ranges q).last →
    IsRangeOf (names_by_ends names sorted) (get_or names q []) (range_of ranges q)
ranges_found names sorted firsts lasts ranges first last between q some =
    let it = between q some in
    let last_is = it.last_is in
    let last_some : 0 < get_or lasts q 0 = omega arith in
    let many : length sorted ≡ length (names_by_ends names sorted) = sym (length-names_by_ends names sorted) in
    range_found (names_by_ends names sorted) (names_by_ends names (reverse sorted)) (turned_names names sorted) (get_or names q [])
    (get_or firsts q 0)
    (get_or lasts q 0) it.some last_some (first q it.some) (last q last_some) (range_of ranges q) last_is
    (subst (λ (n : ℕ). (range_of ranges q).first ≡ n - get_or firsts q 0 + 1) many it.first_is)
