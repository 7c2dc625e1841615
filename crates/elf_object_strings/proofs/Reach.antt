-- The bounds of leaders, from the last one back. Those of a name are those of the name after it, cut at the length of their common
-- end, and its own length (`bounds_back`): a name that both end with has the last name that it had, and a longer one ends no name after it.
use Rattle.std.proofs.Common.{◌≡◌, ◌<◌, ◌≤◌, ◌+◌, ◌-◌, ◌⊎◌, ℕ, zero, suc, List, [], ◌∷◌, ◌++◌, get_or, length, take, refl, sym, ap, subst}
use Rattle.std.proofs.Common.{◌∙◌, inl, inr, arith, length-append, get_or-take, length-take, true, false, ltb}
use Rattle.std.proofs.lemmas.Bool.{cases_lt}
use Rattle.std.specs.List.Sorted.{IsPartitionPoint}
use borrow.Author.Tests.{ltb-true, ltb-false}
use Rattle.std.proofs.lemmas.List.{get_or_append_left, get_or-append_right, get_or_default}
use Rattle.elf_object_strings.proofs.CommonEnd.{ends_other}
use Rattle.elf_object_strings.proofs.Ends.{suffix_fits}
use Rattle.elf_object_strings.specs.Leaders.{AreBounds, AreCutAt, IsBoundOf, IsCommonEnd, IsLastWith, ReachUpTo, StandTogether, no_bound}
use Rattle.elf_object_strings.specs.StringTable.{IsSuffix}
use Rattle.elf_object_strings.specs.declared.bounds.Bound.{Bound}

-- ---- one bound

limit_one : (b : Bound) (i : ℕ) (d : Bound) → i < length (b ∷ []) → get_or (b ∷ []) i d ≡ b
limit_one b i d lt = by i lt where
  by : (i : ℕ) → i < length (b ∷ []) → get_or (b ∷ []) i d ≡ b
  by zero lt = refl
  by (suc i) lt = absurd (omega arith)

pub reach_one : (n p : ℕ) → ReachUpTo (record { limit = n; last = p } ∷ []) n
reach_one n p = record {
  ascend = λ i j d le lt.
      (let one = ap (λ (b : Bound). b.limit) (limit_one (record { limit = n; last = p }) j d lt) in
      let other = ap (λ (b : Bound). b.limit) (limit_one (record { limit = n; last = p }) i d (omega arith)) in
      omega arith);
  some = omega arith;
  top = refl;
}

pub bounds_last : (leaders : List (List ℕ)) (p : ℕ) → length leaders ≡ p + 1 →
    AreBounds leaders (record { limit = length (get_or leaders p []); last = p } ∷ []) p
bounds_last leaders p last = record {
  reach = reach_one (length (get_or leaders p [])) p;
  last = λ k name own at.
      (let is = ap (λ (b : Bound). b.last) (limit_one (record { limit = length (get_or leaders p []); last = p }) k no_bound at.within) in
      subst (IsLastWith leaders name) (sym is)
      (record { within = omega arith; ends = own; none = λ r after within. absurd (omega arith) }));
}

-- ---- cut bounds, with one more

-- what is at each place of some bounds that are cut at a length, and one more
record IsMore (bounds new : List Bound) (k : ℕ) (cut more : Bound) : Type 0 where
  all : length new ≡ k + 2
  before : (i : ℕ) (d : Bound) → i < k → get_or new i d ≡ get_or bounds i d
  here : (d : Bound) → get_or new k d ≡ cut
  after : (d : Bound) → get_or new (k + 1) d ≡ more

is_more : (bounds new : List Bound) (k : ℕ) (cut more : Bound) → k < length bounds → new ≡ (take k bounds ++ (cut ∷ [])) ++ (more ∷ []) →
    IsMore bounds new k cut more
is_more bounds new k cut more lt is =
    let taken : length (take k bounds) ≡ k = length-take k bounds ∙ omega arith in
    let front : length (take k bounds ++ (cut ∷ [])) ≡ k + 1 = length-append (take k bounds) (cut ∷ []) ∙ omega arith in
    record {
      all = ap length is ∙ length-append (take k bounds ++ (cut ∷ [])) (more ∷ []) ∙ omega arith;
      before = λ i d below.
          (ap (λ (s : List Bound). get_or s i d) is
          ∙ get_or_append_left (take k bounds ++ (cut ∷ [])) (more ∷ []) d i (omega arith)
          ∙ get_or_append_left (take k bounds) (cut ∷ []) d i (omega arith) ∙ get_or-take k bounds i d below);
      here = λ d.
          (let at : k - k ≡ 0 = omega arith in
          ap (λ (s : List Bound). get_or s k d) is
          ∙ get_or_append_left (take k bounds ++ (cut ∷ [])) (more ∷ []) d k (omega arith)
          ∙ get_or-append_right (take k bounds) (cut ∷ []) k k d taken (omega arith) ∙ ap (λ (i : ℕ). get_or (cut ∷ []) i d) at);
      after = λ d.
          (let at : k + 1 - (k + 1) ≡ 0 = omega arith in
          ap (λ (s : List Bound). get_or s (k + 1) d) is
          ∙ get_or-append_right (take k bounds ++ (cut ∷ [])) (more ∷ []) (k + 1) (k + 1) d front (omega arith)
          ∙ ap (λ (i : ℕ). get_or (more ∷ []) i d) at);
    }

-- the bound that a search by halves finds
pub bound_found : (bounds : List Bound) (n len k : ℕ) → ReachUpTo bounds n → len ≤ n → k ≤ length bounds →
    IsPartitionPoint (λ (it : Bound). ltb it.limit len ≡ true) (λ (it : Bound). ltb it.limit len ≡ false) bounds k → IsBoundOf bounds len k
bound_found bounds n len k reach le within (below, above) = record {
  within = there;
  reaches = ltb-false _ len (above k no_bound (omega arith) there);
  first = elim (cases_lt 0 k) [
    | inl some ↦ inr (ltb-true _ len (below (k - 1) no_bound (omega arith) (omega arith)))
    | inr none ↦ inl (omega arith)
  ];
} where
  there : k < length bounds
  there = elim (cases_lt k (length bounds)) [
    | inl less ↦ less
    | inr all ↦ (let some = reach.some in
        let last = ltb-true _ len (below (length bounds - 1) no_bound (omega arith) (omega arith)) in
        let top = reach.top in
        absurd (omega arith))
  ]

-- ---- the bounds of the name before

-- the bounds before the one of a length are less than it
before_bound : (bounds : List Bound) (n c k : ℕ) → ReachUpTo bounds n → IsBoundOf bounds c k → (i : ℕ) → i < k →
    (get_or bounds i no_bound).limit < c
before_bound bounds n c k reach at i lt =
    let within = at.within in
    elim at.first [
      | inl none ↦ absurd (omega arith)
      | inr less ↦ (let le = reach.ascend i (k - 1) no_bound (omega arith) (omega arith) in omega arith)
    ]

-- bounds that are cut at a length, and a longer one, reach up to that one
reach_more : (bounds new : List Bound) (n c len k l p : ℕ) → ReachUpTo bounds n → IsBoundOf bounds c k → c ≤ len →
    IsMore bounds new k (record { limit = c; last = l }) (record { limit = len; last = p }) → ReachUpTo new len
reach_more bounds new n c len k l p reach at le more = record {
  ascend = λ i j d low within. elim (cases_lt j k) [
    | inl less ↦ (let first = ap limit (more.before i d (omega arith)) in
        let second = ap limit (more.before j d less) in
        let there = at.within in
        let up = reach.ascend i j d low (omega arith) in
        omega arith)
    | inr beyond ↦ elim (cases_lt k i) [
      | inl after ↦ (let all = more.all in
          let same : i ≡ j = omega arith in
          let one = ap (λ (m : ℕ). limit (get_or new m d)) same in
          omega arith)
      | inr first ↦ (let low = at_most i d first in let high = at_least j d beyond within in omega arith)
    ]
  ];
  some = let all = more.all in omega arith;
  top = (let all = more.all in
      let last : length new - 1 ≡ k + 1 = omega arith in
      ap (λ (m : ℕ). limit (get_or new m no_bound)) last ∙ ap limit (more.after no_bound));
} where
  limit : Bound → ℕ
  limit b = b.limit

  at_most : (i : ℕ) (d : Bound) → i ≤ k → limit (get_or new i d) ≤ c
  at_most i d low = elim (cases_lt i k) [
    | inl less ↦ (let there = at.within in
        let same = ap limit (more.before i d less ∙ get_or_default bounds i d no_bound (omega arith)) in
        let below = before_bound bounds n c k reach at i less in
        omega arith)
    | inr here ↦ (let same : i ≡ k = omega arith in
        let is = ap (λ (m : ℕ). limit (get_or new m d)) same ∙ ap limit (more.here d) in
        omega arith)
  ]

  at_least : (j : ℕ) (d : Bound) → k ≤ j → j < length new → c ≤ limit (get_or new j d)
  at_least j d beyond within = elim (cases_lt k j) [
    | inl after ↦ (let all = more.all in
        let same : j ≡ k + 1 = omega arith in
        let is = ap (λ (m : ℕ). limit (get_or new m d)) same ∙ ap limit (more.after d) in
        omega arith)
    | inr here ↦ (let same : j ≡ k = omega arith in
        let is = ap (λ (m : ℕ). limit (get_or new m d)) same ∙ ap limit (more.here d) in
        omega arith)
  ]

-- and have the last name that ends with a name which the one at a position ends with
module _ (leaders : List (List ℕ)) (stand : StandTogether leaders) (bounds new : List Bound) (p c k : ℕ)
    (lt : p + 1 < length leaders) (before : AreBounds leaders bounds (p + 1))
    (both : IsCommonEnd (get_or leaders p []) (get_or leaders (p + 1) []) c) (at : IsBoundOf bounds c k)
    (more : IsMore bounds new k (record { limit = c; last = (get_or bounds k no_bound).last })
    (record { limit = length (get_or leaders p []); last = p })) where
  -- those of a name that the next one ends with too
  earlier : (m : ℕ) (tail : List ℕ) → IsSuffix tail (get_or leaders p []) → m ≤ k → length tail ≤ c →
      length tail ≤ (get_or bounds m no_bound).limit → (m ≡ 0) ⊎ ((get_or new (m - 1) no_bound).limit < length tail) →
      IsLastWith leaders tail (get_or bounds m no_bound).last
  earlier m tail own low short reaches first =
      let there = at.within in
      before.last m tail (ends_other (get_or leaders p []) (get_or leaders (p + 1) []) c both tail own short)
      (record {
        within = omega arith;
        reaches = reaches;
        first = elim (cases_lt 0 m) [
          | inl some ↦ elim first [
            | inl none ↦ inl none
            | inr less ↦ inr (subst (λ (b : Bound). b.limit < length tail) (more.before (m - 1) no_bound (omega arith)) less)
          ]
          | inr none ↦ inl (omega arith)
        ];
      })

  -- that of a longer name is the one at the position
  longest : (tail : List ℕ) → IsSuffix tail (get_or leaders p []) → c < length tail → IsLastWith leaders tail p
  longest tail own long = record {
    within = omega arith;
    ends = own;
    none = λ r after within ends.
        (let next = stand tail p (p + 1) r (omega arith) (omega arith) within own ends in
        let short = both.most tail own next in
        absurd (omega arith));
  }

  last_more : (m : ℕ) (tail : List ℕ) → IsSuffix tail (get_or leaders p []) → IsBoundOf new (length tail) m →
      IsLastWith leaders tail (get_or new m no_bound).last
  last_more m tail own found = elim (cases_lt m k) [
    | inl less ↦ (let is = more.before m no_bound less in
        let reaches : length tail ≤ (get_or bounds m no_bound).limit = subst (λ (b : Bound). length tail ≤ b.limit) is found.reaches in
        let below = before_bound bounds _ c k before.reach at m less in
        subst (λ (b : Bound). IsLastWith leaders tail b.last) (sym is)
        (earlier m tail own (omega arith) (omega arith) reaches found.first))
    | inr beyond ↦ elim (cases_lt k m) [
      | inl after ↦ (let all = more.all in
          let within = found.within in
          let same : m ≡ k + 1 = omega arith in
          let is : get_or new m no_bound ≡ record { limit = length (get_or leaders p []); last = p } =
          ap (λ (i : ℕ). get_or new i no_bound) same ∙ more.after no_bound in
          subst (λ (b : Bound). IsLastWith leaders tail b.last) (sym is) (longest tail own (over same found.first)))
      | inr here ↦ (let same : m ≡ k = omega arith in
          let is : get_or new m no_bound ≡ record { limit = c; last = (get_or bounds k no_bound).last } =
          ap (λ (i : ℕ). get_or new i no_bound) same ∙ more.here no_bound in
          let short : length tail ≤ c = subst (λ (b : Bound). length tail ≤ b.limit) is found.reaches in
          let reaches = at.reaches in
          let first : (k ≡ 0) ⊎ ((get_or new (k - 1) no_bound).limit < length tail) =
          subst (λ (i : ℕ). (i ≡ 0) ⊎ ((get_or new (i - 1) no_bound).limit < length tail)) same found.first in
          subst (λ (b : Bound). IsLastWith leaders tail b.last) (sym is)
          (earlier k tail own (omega arith) short (omega arith) first))
    ]
  ] where
    over : m ≡ k + 1 → (m ≡ 0) ⊎ ((get_or new (m - 1) no_bound).limit < length tail) → c < length tail
    over same (inl none) = absurd (omega arith)
    over same (inr less) =
        let at : m - 1 ≡ k = omega arith in
        let is = ap (λ (i : ℕ). get_or new i no_bound) at ∙ more.here no_bound in
        subst (λ (b : Bound). b.limit < length tail) is less

pub bounds_back : (leaders : List (List ℕ)) → StandTogether leaders → (bounds cut : List Bound) (p c : ℕ) →
    p + 1 < length leaders → AreBounds leaders bounds (p + 1) → IsCommonEnd (get_or leaders p []) (get_or leaders (p + 1) []) c →
    AreCutAt bounds cut c →
    AreBounds leaders (cut ++ (record { limit = length (get_or leaders p []); last = p } ∷ [])) p
bounds_back leaders stand bounds cut p c lt before both (k, at, is) = record {
  reach = reach_more bounds _ _ c (length (get_or leaders p [])) k _ p before.reach at fits more;
  last = last_more leaders stand bounds _ p c k lt before both at more;
} where
  more : IsMore bounds (cut ++ (record { limit = length (get_or leaders p []); last = p } ∷ [])) k
      (record { limit = c; last = (get_or bounds k no_bound).last }) (record { limit = length (get_or leaders p []); last = p })
  more = is_more bounds _ k _ _ at.within
      (ap (λ (s : List Bound). s ++ (record { limit = length (get_or leaders p []); last = p } ∷ [])) is)

  fits : c ≤ length (get_or leaders p [])
  fits = let long = both.long in let short = suffix_fits both.end (get_or leaders p []) both.own in omega arith
