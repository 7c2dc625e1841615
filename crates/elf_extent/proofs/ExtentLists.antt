-- Lists of extents: who holds a byte, which extents overlap, and what a sweep over them in order finds.
use Rattle.std.proofs.Common.{◌≡◌, ℕ, ◌⊎◌, Option, None, Some, inl, inr, refl, ap, sym, subst, arith, zero, suc, ◌+◌, ◌<◌, ◌≤◌, true, false}
use Rattle.std.proofs.Common.{cond, List, [], ◌∷◌, ◌∙◌, length, get_or, ◌≢◌, Bool, ◌++◌, map, take, ◌-◌}
use Rattle.std.proofs.Math.Nat.{min-eq_left, min-eq_right}
use Rattle.std.proofs.lemmas.Bool.{cases_lt}
use Rattle.std.specs.Prelude.{filter, nat_le, nat_lt, slice_get, IfNone, nat_eq}
use Rattle.std.specs.List.{All, sum_by, Contains, AllPairs}
use Rattle.std.specs.List.Sorted.{IsPermutation, IsNonDecreasingBy}
use Rattle.std.proofs.lemmas.Bool.Decides.{nat_tests, Decides-eqb}
use Rattle.std.proofs.lemmas.List.Sums.{sum_by-cons}
use Rattle.std.proofs.lemmas.List.Elements.{All-weaker, filter_passes, All-push, filter_more, Contains-append_left, Contains-push}
use Rattle.std.proofs.lemmas.List.Sorted.{All-permutation, sum_by-IsPermutation, Contains-permutation, IsPermutation-map}
use Rattle.std.proofs.lemmas.Option.{same_Some, slice_get_cases, get_or_from_slice_get, slice_get_within}
use Rattle.std.proofs.lemmas.List.{get_or-map, get_or_default, length-map, append-nil, map_push}
use Rattle.std.proofs.lemmas.List.Quantifiers.{all_pairs_push}
use Rattle.std.proofs.lemmas.Map.Keys.{IsDistinct-IsPermutation}
use Rattle.std.proofs.lemmas.Map.Made.{AllPairs-from_IsDistinct, IsDistinct-from_AllPairs}
use Rattle.elf_extent.specs.Extent.{IsLowest, lower_of, Doubly, Has, HasAt, holds_any, AreDisjoint, Never, AreMembers, IsMember}
use Rattle.elf_extent.specs.Extent.{OverlapsEarlier}
use Rattle.elf_extent.specs.declared.extent.Extent.{Extent}
use Rattle.elf_extent.specs.declared.sorted.Member.{Member}

-- The lowest offset at which a predicate holds: it depends only on where the predicate holds, there is at most one, and that of "P or Q" is
-- the lower one of theirs. By cases on which of them is found.

-- predicates that hold at the same offsets have the same lowest one
pub IsLowest-same : (P Q : ℕ → Type 0) (found : Option ℕ) →
    ((x : ℕ) → P x → Q x) → ((x : ℕ) → Q x → P x) → IsLowest P found → IsLowest Q found
IsLowest-same P Q None to back none = λ x q. none x (back x q)
IsLowest-same P Q (Some x) to back least =
    record { holds = to x least.holds; lowest = λ y q. least.lowest y (back y q) }

-- a predicate has one lowest offset
pub one_lowest : (P : ℕ → Type 0) (a b : Option ℕ) → IsLowest P a → IsLowest P b → a ≡ b
one_lowest P None None p q = refl
one_lowest P None (Some y) p q = absurd (p y q.holds)
one_lowest P (Some x) None p q = absurd (q x p.holds)
one_lowest P (Some x) (Some y) p q =
    let below = p.lowest y q.holds in
    let above = q.lowest x p.holds in
    let same : x ≡ y = omega arith in
    ap Some same

-- the lowest offset at which one of two predicates holds is the lower one of theirs
pub IsLowest-lower : (P Q : ℕ → Type 0) (a b : Option ℕ) →
    IsLowest P a → IsLowest Q b → IsLowest (λ x. P x ⊎ Q x) (lower_of a b)
IsLowest-lower P Q None None p q = λ x h. elim h [ inl here ↦ p x here | inr there ↦ q x there ]
IsLowest-lower P Q None (Some y) p q = record {
  holds = inr q.holds;
  lowest = λ z h. elim h [ inl here ↦ absurd (p z here) | inr there ↦ q.lowest z there ];
}
IsLowest-lower P Q (Some x) None p q = record {
  holds = inl p.holds;
  lowest = λ z h. elim h [ inl here ↦ p.lowest z here | inr there ↦ absurd (q z there) ];
}
IsLowest-lower P Q (Some x) (Some y) p q = record {
  holds = elim (cases_lt y x) [
    | inl lower ↦ subst (λ m. P m ⊎ Q m) (sym (min-eq_right (omega arith))) (inr q.holds)
    | inr upper ↦ subst (λ m. P m ⊎ Q m) (sym (min-eq_left (omega arith))) (inl p.holds)
  ];
  lowest = λ z h. elim h [
    | inl here ↦ (let at_x = p.lowest z here in omega arith)
    | inr there ↦ (let at_y = q.lowest z there in omega arith)
  ];
}

-- A byte is held doubly exactly if at least two extents are counted at it: by induction on the list. A permutation keeps the count, because
-- it is a sum, and so does a list without its empty extents. So the lowest byte held doubly is that of each permutation of the nonempty
-- extents (`lowest_sorted`).

-- 1 where the extent holds the byte, else 0
abbrev pub once_if_held : ℕ → Extent → ℕ
once_if_held x e = cond (nat_le e.start x) (cond (nat_lt x (e.start + e.len)) 1 0) 0

abbrev pub holders : List Extent → ℕ → ℕ
holders es x = sum_by (once_if_held x) es

pub held_cases : (x : ℕ) (e : Extent) → (Has e x × (once_if_held x e ≡ 1)) ⊎ ((Has e x → ⊥) × (once_if_held x e ≡ 0))
held_cases x e = elim (cases_lt x e.start) [
  | inl before ↦
      let test : nat_le e.start x ≡ false = grind (arith, nat_tests) in
      inr (λ has. omega arith, ap (λ b. cond b (cond (nat_lt x (e.start + e.len)) 1 0) 0) test)
  | inr from ↦
      let test : nat_le e.start x ≡ true = grind (arith, nat_tests) in
      let to : once_if_held x e ≡ cond (nat_lt x (e.start + e.len)) 1 0 =
      ap (λ b. cond b (cond (nat_lt x (e.start + e.len)) 1 0) 0) test in
      elim (cases_lt x (e.start + e.len)) [
        | inl below ↦
            let last : nat_lt x (e.start + e.len) ≡ true = grind (arith, nat_tests) in
            inl ((from, below), to ∙ ap (λ b. cond b 1 0) last)
        | inr past ↦
            let last : nat_lt x (e.start + e.len) ≡ false = grind (arith, nat_tests) in
            inr (λ has. omega arith, to ∙ ap (λ b. cond b 1 0) last)
      ]
]

-- what is held is counted once, and what is counted is held
pub counted_once : (es : List Extent) (x i : ℕ) → HasAt es i x → 1 ≤ holders es x
counted_once [] x i (e, here, has) = cc
counted_once (e ∷ es) x zero (f, here, has) =
    let sum = sum_by-cons (once_if_held x) e es in
    elim (held_cases x e) [
      | inl (held, one) ↦ omega arith
      | inr (not_held, none) ↦
          let same = same_Some e f here in
          absurd (not_held (subst (λ (g : Extent). Has g x) (sym same) has))
    ]
counted_once (e ∷ es) x (suc i) held =
    let sum = sum_by-cons (once_if_held x) e es in
    let rest = counted_once es x i held in
    omega arith

pub counted_twice : (es : List Extent) (x i j : ℕ) → i < j → HasAt es i x → HasAt es j x → 2 ≤ holders es x
counted_twice [] x i j less (e, here, has) at_j = cc
counted_twice (e ∷ es) x i zero less at_i at_j = absurd (omega arith)
counted_twice (e ∷ es) x zero (suc j) less (f, here, has) at_j =
    let sum = sum_by-cons (once_if_held x) e es in
    let rest = counted_once es x j at_j in
    elim (held_cases x e) [
      | inl (held, one) ↦ omega arith
      | inr (not_held, none) ↦
          let same = same_Some e f here in
          absurd (not_held (subst (λ (g : Extent). Has g x) (sym same) has))
    ]
counted_twice (e ∷ es) x (suc i) (suc j) less at_i at_j =
    let sum = sum_by-cons (once_if_held x) e es in
    let rest = counted_twice es x i j (omega arith) at_i at_j in
    omega arith

pub held_once : (es : List Extent) (x : ℕ) → 1 ≤ holders es x → (i : ℕ) × HasAt es i x
held_once [] x counted = absurd (omega arith)
held_once (e ∷ es) x counted =
    let sum = sum_by-cons (once_if_held x) e es in
    elim (held_cases x e) [
      | inl (held, one) ↦ (0, (e, refl, held))
      | inr (not_held, none) ↦
          let rest = held_once es x (omega arith) in
          (suc rest.0, rest.1)
    ]

pub held_twice : (es : List Extent) (x : ℕ) → 2 ≤ holders es x → Doubly es x
held_twice [] x counted = absurd (omega arith)
held_twice (e ∷ es) x counted =
    let sum = sum_by-cons (once_if_held x) e es in
    elim (held_cases x e) [
      | inl (held, one) ↦
          let rest = held_once es x (omega arith) in
          (0, suc rest.0, omega arith, (e, refl, held), rest.1)
      | inr (not_held, none) ↦
          let (i, j, less, at_i, at_j) = held_twice es x (omega arith) in
          (suc i, suc j, omega arith, at_i, at_j)
    ]

-- the extents that hold no byte don't count
pub holders-filter : (es : List Extent) (x : ℕ) → holders (filter holds_any es) x ≡ holders es x
holders-filter [] x = refl
holders-filter (e ∷ es) x =
    let rest = holders-filter es x in
    let sum = sum_by-cons (once_if_held x) e es in
    let kept = sum_by-cons (once_if_held x) e (filter holds_any es) in
    elim (cases_lt 0 e.len) [
      | inl some ↦
          let test : holds_any e ≡ true = grind (arith, nat_tests) in
          let taken = ap (λ b. holders (cond b (e ∷ filter holds_any es) (filter holds_any es)) x) test in
          omega arith
      | inr none ↦
          let test : holds_any e ≡ false = grind (arith, nat_tests) in
          let left = ap (λ b. holders (cond b (e ∷ filter holds_any es) (filter holds_any es)) x) test in
          elim (held_cases x e) [
            | inl (held, one) ↦ absurd (omega arith)
            | inr (not_held, none_held) ↦ omega arith
          ]
    ]

pub doubly_by_count : (es fs : List Extent) (x : ℕ) → holders es x ≡ holders fs x → Doubly es x → Doubly fs x
doubly_by_count es fs x same (i, j, less, at_i, at_j) =
    let two = counted_twice es x i j less at_i at_j in
    held_twice fs x (omega arith)

-- the lowest byte that is held doubly is the same in any order
pub lowest_moved : (es moved : List Extent) (found : Option ℕ) → IsPermutation es moved →
    IsLowest (Doubly moved) found → IsLowest (Doubly es) found
lowest_moved es moved found permuted =
    IsLowest-same (Doubly moved) (Doubly es) found
    (λ x. doubly_by_count moved es x (same x)) (λ x. doubly_by_count es moved x (sym (same x)))
  where
    same : (x : ℕ) → holders moved x ≡ holders es x
    same x = sum_by-IsPermutation (once_if_held x) es moved permuted

-- and the same among those that hold a byte
pub lowest_held : (es : List Extent) (found : Option ℕ) → IsLowest (Doubly (filter holds_any es)) found → IsLowest (Doubly es) found
lowest_held es found =
    IsLowest-same (Doubly (filter holds_any es)) (Doubly es) found
    (λ x. doubly_by_count (filter holds_any es) es x (holders-filter es x))
    (λ x. doubly_by_count es (filter holds_any es) x (sym (holders-filter es x)))

-- and so in any order among those that hold one
pub lowest_sorted : (es sorted : List Extent) (found : Option ℕ) → IsPermutation (filter holds_any es) sorted →
    IsLowest (Doubly sorted) found → IsLowest (Doubly es) found
lowest_sorted es sorted found moved lowest = lowest_held es found (lowest_moved (filter holds_any es) sorted found moved lowest)

-- each of these holds a byte
pub held_nonempty : (es : List Extent) → All (λ e. 0 < e.len) (filter holds_any es)
held_nonempty es =
    All-weaker (λ e. holds_any e ≡ true) (λ e. 0 < e.len) (λ e test. grind (arith, nat_tests)) (filter holds_any es)
    (filter_passes holds_any es)

pub nonempty_sorted : (es sorted : List Extent) → IsPermutation (filter holds_any es) sorted → All (λ e. 0 < e.len) sorted
nonempty_sorted es sorted moved = All-permutation (λ e. 0 < e.len) (filter holds_any es) sorted moved (held_nonempty es)

-- Each byte that a list of extents holds is held by one of its members, and each index is at one position of the members only. Extents are
-- disjoint exactly if no byte is held doubly: of two different indices one is the lower.

-- a position that has an element is below the length
pub position_below : {X : Type 0} (xs : List X) (i : ℕ) (x : X) → slice_get xs i ≡ Some x → i < length xs
position_below xs i x here = elim (slice_get_cases xs i).1 [
  | inl (y, lt, is, read) ↦ lt
  | inr (past, none) ↦ (let no : None ≡ Some x = sym none ∙ here in cc)
]

-- the member that holds a byte of the list
pub record IsPlaceOf (es : List Extent) (ms : List Member) (i k x : ℕ) : Type 0 where
  pub within : k < length ms
  pub index : (d : Member) → (get_or ms k d).index ≡ i
  pub has : (d : Member) → Has (get_or ms k d).extent x

-- each byte that the list holds is held by a member
pub covering_member : (es : List Extent) (ms : List Member) (i x : ℕ) → AreMembers es (length es) ms →
    HasAt es i x → (k : ℕ) × IsPlaceOf es ms i k x
covering_member es ms i x given (e, here, has) =
    let m : Member = record { index = i; extent = e } in
    let found : Contains ms m = given.all i e (position_below es i e here) here (omega arith) in (
      found.0,
      record {
        within = found.1;
        index = λ d. ap (λ (k : Member). k.index) (get_or_default ms found.0 d m found.1 ∙ found.2);
        has = λ d. subst (λ (k : Member). Has k.extent x)
            (sym (get_or_default ms found.0 d m found.1 ∙ found.2)) has;
      },
    )

-- two places of one member are one
pub once : (es : List Extent) (n : ℕ) (ms : List Member) → AreMembers es n ms → (d : Member) (j k : ℕ) →
    j < k → k < length ms → (get_or ms j d).index ≡ (get_or ms k d).index → ⊥
once es n ms given d j k lt within same =
    let index : Member → ℕ = λ m. m.index in
    given.once j k 0 lt (omega (arith, length-map ms index))
    (get_or-map index ms j d 0 (omega arith) ∙ same ∙ sym (get_or-map index ms k d 0 within))

-- extents of which no byte is held twice are disjoint
pub disjoint_from_never : (es : List Extent) → Never (Doubly es) → AreDisjoint es
disjoint_from_never es none i j x at_i at_j = elim (cases_lt i j) [
  | inl less ↦ absurd (none x (i, j, less, at_i, at_j))
  | inr other ↦ elim (cases_lt j i) [
    | inl less ↦ absurd (none x (j, i, less, at_j, at_i))
    | inr same ↦ omega arith
  ]
]

-- so are those of which no lowest such byte was found
pub disjoint_where_none : (es : List Extent) (found : Option ℕ) → IsLowest (Doubly es) found → IfNone found (AreDisjoint es)
disjoint_where_none es None none = disjoint_from_never es none
disjoint_where_none es (Some x) least = tt

-- and of disjoint extents no byte is held twice
pub never_from_disjoint : (es : List Extent) → AreDisjoint es → Never (Doubly es)
never_from_disjoint es disjoint x (i, j, less, at_i, at_j) =
    let same = disjoint i j x at_i at_j in
    omega arith

-- One extent more: if it holds a byte, it is a new member (`members_more`), and if not, the members stay (`members_skip`). Both split on
-- whether an index is the new one, and `held_more` and `held_skip` show the same of the members' extents. A permutation of members is
-- members again, and the extents of ascending members ascend.

-- before the first extent there is no member
pub members_none : (es : List Extent) → AreMembers es 0 []
members_none es = record {
  each = λ k d lt. absurd (omega arith);
  below = λ k d lt. absurd (omega arith);
  all = λ i e lt. absurd (omega arith);
  once = λ i j d le lt. absurd (omega arith);
}

-- an extent that holds no byte adds no member
pub members_skip : (es : List Extent) (n : ℕ) (ms : List Member) (e : Extent) →
    slice_get es n ≡ Some e → e.len ≤ 0 → AreMembers es n ms → AreMembers es (n + 1) ms
members_skip es n ms e here none given = record {
  each = given.each;
  below = All-weaker (λ m. m.index < n) (λ m. m.index < n + 1) (λ m lt. omega arith) ms given.below;
  all = λ i f lt at holds. elim (cases_lt i n) [
    | inl earlier ↦ given.all i f earlier at holds
    | inr later ↦
        let same : i ≡ n = omega arith in
        let at_n : slice_get es n ≡ Some f = subst (λ k. slice_get es k ≡ Some f) same at in
        let equal : e ≡ f = same_Some e f (sym here ∙ at_n) in
        let lens : e.len ≡ f.len = ap (λ (x : Extent). x.len) equal in
        absurd (omega arith)
  ];
  once = given.once;
}

-- an extent that holds a byte is one member more
pub members_more : (es : List Extent) (n : ℕ) (ms : List Member) (e : Extent) →
    slice_get es n ≡ Some e → 0 < e.len → AreMembers es n ms →
    AreMembers es (n + 1) (ms ++ record { index = n; extent = e } ∷ [])
members_more es n ms e here holds given =
    let m : Member = record { index = n; extent = e } in
    record {
      each = All-push (IsMember es) ms m given.each (record { here = here; nonempty = holds });
      below = All-push (λ k. k.index < n + 1) ms m
          (All-weaker (λ k. k.index < n) (λ k. k.index < n + 1) (λ k lt. omega arith) ms given.below)
          (omega arith);
      all = λ i f lt at nonempty. elim (cases_lt i n) [
        | inl earlier ↦ Contains-append_left ms (m ∷ []) (record { index = i; extent = f })
            (given.all i f earlier at nonempty)
        | inr later ↦
            let same : i ≡ n = omega arith in
            let at_n : slice_get es n ≡ Some f = subst (λ k. slice_get es k ≡ Some f) same at in
            let equal : e ≡ f = same_Some e f (sym here ∙ at_n) in
            let whole : m ≡ record { index = i; extent = f } = cc in
            subst (λ k. Contains (ms ++ m ∷ []) k) whole (Contains-push ms m)
      ];
      once = subst (AllPairs (λ i j. i ≢ j)) (sym (map_push (λ (k : Member). k.index) ms m))
          (all_pairs_push (λ i j. i ≢ j) (map (λ k. k.index) ms) n given.once
          (λ k d lt same.
          let inside : k < length ms = omega (arith, length-map ms (λ (x : Member). x.index)) in
          let read = get_or-map (λ (x : Member). x.index) ms k m d inside in
          let low = given.below k m inside in
          omega arith));
    }

-- what is gathered so are the extents that hold a byte, in the order of the list
abbrev extents_of : List Member → List Extent
extents_of ms = map (λ m. m.extent) ms

held_next : (es : List Extent) (n : ℕ) (e : Extent) → slice_get es n ≡ Some e →
    filter holds_any (take (n + 1) es) ≡ filter holds_any (take n es) ++ cond (holds_any e) (e ∷ []) []
held_next es n e here =
    let is : get_or es n e ≡ e = get_or_from_slice_get es n e e here in
    filter_more holds_any es n e (slice_get_within es n e here)
    ∙ ap (λ (x : Extent). filter holds_any (take n es) ++ cond (holds_any x) (x ∷ []) []) is

pub held_skip : (es : List Extent) (n : ℕ) (ms : List Member) (e : Extent) → slice_get es n ≡ Some e → e.len ≤ 0 →
    extents_of ms ≡ filter holds_any (take n es) → extents_of ms ≡ filter holds_any (take (n + 1) es)
held_skip es n ms e here none held =
    let test : holds_any e ≡ false = grind (arith, nat_tests) in
    held ∙ sym (append-nil (filter holds_any (take n es)))
    ∙ ap (λ (b : Bool). filter holds_any (take n es) ++ cond b (e ∷ []) []) (sym test) ∙ sym (held_next es n e here)

pub held_more : (es : List Extent) (n : ℕ) (ms : List Member) (e : Extent) → slice_get es n ≡ Some e → 0 < e.len →
    extents_of ms ≡ filter holds_any (take n es) →
    extents_of (ms ++ record { index = n; extent = e } ∷ []) ≡ filter holds_any (take (n + 1) es)
held_more es n ms e here some held =
    let m : Member = record { index = n; extent = e } in
    let test : holds_any e ≡ true = grind (arith, nat_tests) in
    map_push (λ (k : Member). k.extent) ms m ∙ ap (λ (xs : List Extent). xs ++ e ∷ []) held
    ∙ ap (λ (b : Bool). filter holds_any (take n es) ++ cond b (e ∷ []) []) (sym test) ∙ sym (held_next es n e here)

-- the extents of members that ascend do
pub ascending_extents : (ms : List Member) → IsNonDecreasingBy (λ m. m.extent.start) ms → IsNonDecreasingBy (λ e. e.start) (extents_of ms)
ascending_extents [] up i j d le below = absurd (omega arith)
ascending_extents (m ∷ ms) up i j d le below =
    let extent : Member → Extent = λ k. k.extent in
    let within : j < length (m ∷ ms) = omega (arith, length-map (m ∷ ms) extent) in
    let first = get_or-map extent (m ∷ ms) i m d (omega arith) in
    let second = get_or-map extent (m ∷ ms) j m d within in
    rw (first, second) (up i j m le within)

-- members in another order are members
pub members_permuted : (es : List Extent) (n : ℕ) (ms ns : List Member) →
    IsPermutation ms ns → AreMembers es n ms → AreMembers es n ns
members_permuted es n ms ns moved given = record {
  each = All-permutation (IsMember es) ms ns moved given.each;
  below = All-permutation (λ m. m.index < n) ms ns moved given.below;
  all = λ i e lt at holds. Contains-permutation ms ns (record { index = i; extent = e }) moved
      (given.all i e lt at holds);
  once =
      let f : Member → ℕ = λ m. m.index in
      AllPairs-from_IsDistinct Decides-eqb (map f ns)
      (IsDistinct-IsPermutation nat_eq (λ x y. grind (arith, nat_tests)) (map f ms) (map f ns)
      (IsPermutation-map f ms ns moved)
      (IsDistinct-from_AllPairs Decides-eqb (map f ms) given.once));
}

-- A sweep over nonempty extents in ascending order of their starts; `last` reaches as far as any extent so far (`IsSwept`). If the next
-- extent starts lower than that end, its start is the lowest shared byte, and it is the first that overlaps (`shared_at`). Otherwise it is
-- the new `last` (`swept_more`), and after the last extent no byte is shared (`unshared`).

abbrev start_of : Extent → ℕ
start_of e = e.start

-- among the first k extents no byte is shared; last reaches as far as any of them, starts at or below those that are to come, and is
-- one of the first, if it holds a byte
pub record IsSwept (es : List Extent) (k : ℕ) (last : Extent) : Type 0 where
  pub apart : (j : ℕ) → j < k → OverlapsEarlier es j → ⊥
  pub reaches : (i : ℕ) (e : Extent) → i < k → slice_get es i ≡ Some e → e.start + e.len ≤ last.start + last.len
  pub below : (j : ℕ) (e : Extent) → k ≤ j → slice_get es j ≡ Some e → last.start ≤ e.start
  pub among : 0 < last.len → (i : ℕ) × (i < k) × (slice_get es i ≡ Some last)

-- a later extent starts no lower
pub rises : (es : List Extent) (i j : ℕ) (e f : Extent) → IsNonDecreasingBy start_of es → i ≤ j →
    slice_get es i ≡ Some e → slice_get es j ≡ Some f → e.start ≤ f.start
rises es i j e f up le at_i at_j =
    let starts : (get_or es i e).start ≤ (get_or es j e).start = up i j e le (slice_get_within es j f at_j) in
    let first : (get_or es i e).start ≡ e.start = ap start_of (get_or_from_slice_get es i e e at_i) in
    let second : (get_or es j e).start ≡ f.start = ap start_of (get_or_from_slice_get es j f e at_j) in
    omega arith

-- the next extent starts at or above the last one, and holds a byte
pub record IsNext (last next : Extent) : Type 0 where
  pub above : last.start ≤ next.start
  pub nonempty : 0 < next.len

next_one : (es : List Extent) (k : ℕ) (last next : Extent) → All (λ e. 0 < e.len) es → IsSwept es k last →
    slice_get es k ≡ Some next → IsNext last next
next_one es k last next nonempty swept here = record {
  above = swept.below k next (omega arith) here;
  nonempty = subst (λ (e : Extent). 0 < e.len) (get_or_from_slice_get es k next next here)
      (nonempty k next (slice_get_within es k next here));
}

-- an extent that starts at or past the end of the last one shares no byte, and is then the last one itself
pub swept_more : (es : List Extent) (k : ℕ) (last next : Extent) → IsNonDecreasingBy start_of es →
    All (λ e. 0 < e.len) es → IsSwept es k last → slice_get es k ≡ Some next →
    last.len ≤ next.start - last.start → IsSwept es (k + 1) next
swept_more es k last next up nonempty swept here apart = record {
  apart = λ j lt shares. elim (cases_lt j k) [
    | inl earlier ↦ swept.apart j earlier shares
    | inr other ↦
        let same : j ≡ k = omega arith in
        shares_none (subst (OverlapsEarlier es) same shares)
  ];
  reaches = λ i e lt at_i. elim (cases_lt i k) [
    | inl earlier ↦ (let reach = swept.reaches i e earlier at_i in omega (arith, after))
    | inr other ↦
        let same : i ≡ k = omega arith in
        let equal = same_Some e next (sym (subst (λ n. slice_get es n ≡ Some e) same at_i) ∙ here) in
        let starts : e.start ≡ next.start = ap start_of equal in
        let lens : e.len ≡ next.len = ap (λ (x : Extent). x.len) equal in
        omega arith
  ];
  below = λ j e le at_j. rises es k j next e up (omega arith) here at_j;
  among = λ lt. (k, omega arith, here);
}
  where
    after : last.start + last.len ≤ next.start
    after = let above = (next_one es k last next nonempty swept here).above in omega arith

    shares_none : OverlapsEarlier es k → ⊥
    shares_none (i, x, less, (e, at_i, held_e), (f, at_k, held_f)) =
        let reach = swept.reaches i e less at_i in
        let starts : f.start ≡ next.start = ap start_of (same_Some f next (sym at_k ∙ here)) in
        omega (arith, after)

-- the member at k is the first one that shares a byte with an earlier one, and x is the lowest byte that is shared
pub record IsShared (es : List Extent) (k x : ℕ) : Type 0 where
  pub lowest : IsLowest (Doubly es) (Some x)
  pub first : IsLowest (OverlapsEarlier es) (Some k)

-- an extent that starts before the last one ends shares the byte at its start with it
pub shared_at : (es : List Extent) (k : ℕ) (last next : Extent) → IsNonDecreasingBy start_of es →
    All (λ e. 0 < e.len) es → IsSwept es k last → slice_get es k ≡ Some next →
    next.start - last.start < last.len → IsShared es k next.start
shared_at es k last next up nonempty swept here shared =
    let beside = next_one es k last next nonempty swept here in
    let held = swept.among (omega arith) in
    let at_last : HasAt es held.0 next.start = (last, held.2, (beside.above, omega (arith, beside.above))) in
    let at_next : HasAt es k next.start = (next, here, (omega arith, omega (arith, beside.nonempty))) in
    record {
      lowest = record { holds = (held.0, k, held.1, at_last, at_next); lowest = no_lower };
      first = record { holds = (held.0, next.start, held.1, at_last, at_next); lowest = not_earlier };
    }
  where
    not_earlier : (j : ℕ) → OverlapsEarlier es j → k ≤ j
    not_earlier j shares = elim (cases_lt j k) [
      | inl earlier ↦ absurd (swept.apart j earlier shares)
      | inr other ↦ other
    ]

    no_lower : (y : ℕ) → Doubly es y → next.start ≤ y
    no_lower y (i, j, less, at_i, (f, at_j, held)) =
        let later = not_earlier j (i, y, less, at_i, (f, at_j, held)) in
        let starts = rises es k j next f up later here at_j in
        omega arith

-- where all extents are swept, no byte is shared
pub record IsUnshared (es : List Extent) : Type 0 where
  pub lowest : IsLowest (Doubly es) None
  pub first : IsLowest (OverlapsEarlier es) None

pub unshared : (es : List Extent) (k : ℕ) (last : Extent) → length es ≤ k → IsSwept es k last → IsUnshared es
unshared es k last done swept = record {
  lowest = λ x (i, j, less, at_i, at_j). never j (i, x, less, at_i, at_j);
  first = never;
}
  where
    never : (j : ℕ) → OverlapsEarlier es j → ⊥
    never j (i, x, less, at_i, (f, at_j, held)) =
        let within = slice_get_within es j f at_j in
        swept.apart j (omega arith) (i, x, less, at_i, (f, at_j, held))
