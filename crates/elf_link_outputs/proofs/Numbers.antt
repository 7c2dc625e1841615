-- A name is known by the first section that has it. Keys in ascending order are numbered, one by one: a key has the number of the one
-- before it if the two are the same, or else the next
-- one. In this order all keys that are the same stand side by side (`between`), so two have one number exactly if they are the same.
use Rattle.std.proofs.Common.{◌≡◌, ℕ, ◌+◌, ◌-◌, ◌<◌, ◌≤◌, ◌&&◌, ◌⊎◌, Bool, true, false, List, [], ◌∷◌, ◌++◌, get_or, length, set, inl, inr}
use Rattle.std.proofs.Common.{refl, sym, ◌∙◌, ap, subst, arith}
use mathlib.Core.Bool.{beq}
use Rattle.std.specs.Prelude.{◌==◌, ◌↔◌}
use Rattle.std.specs.List.{slice_index}
use Rattle.std.specs.List.Sorted.{IsPermutation}
use Rattle.std.specs.Cmp.{IsTotalOrder, nat_cmp_is, nat_cmp_total, bool_cmp_total}
use Rattle.std.specs.Ordering.{bool_cmp, is_eq, is_lt, nat_cmp, ordering_then, ordering_reverse}
use Rattle.std.specs.declared.cmp.Ordering.{Ordering}
use Rattle.std.specs.declared.cmp.Ordering.TheVariants.{Less, Equal, Greater}
use Rattle.std.proofs.lemmas.Bool.{cases_lt, cases_eq, eq-eqb, eqb-true, true≢false}
use Rattle.std.proofs.lemmas.Cmp.{on_total, then_total}
use Rattle.std.proofs.lemmas.List.{get_or-map, get_or-set_other, get_or-set_same, length-map, length-set}
use Rattle.std.proofs.lemmas.List.Elements.{at_read, All-push, All-weaker, Contains-append_left, Contains-push}
use Rattle.std.proofs.lemmas.List.Sorted.{All-permutation, Contains-permutation, ranks_by, sorted_far}
use Rattle.elf_link_files.specs.Rows.{site, site_at}
use Rattle.elf_link_files.specs.SameNames.{site_name, site_names}
use Rattle.elf_link_files.specs.declared.same_names.Named.TheVariants.{Section}
use Rattle.elf_link_files.specs.declared.site.Site.{Site}
use Rattle.elf_link_outputs.proofs.OutputLists.{key_join, key_swap}
use Rattle.elf_link_outputs.specs.Outputs.{AreKeysAscending, AreCounted, AreKeyed, AreKeyNumbers, HaveOneKey, IsKeyOf, key_cmp}
use Rattle.elf_link_outputs.specs.Outputs.{section_at_site}
use Rattle.elf_link_outputs.specs.declared.outputs.Keyed.{Keyed}
use Rattle.elf_link_outputs.specs.declared.outputs.OutputKey.{OutputKey}
use Rattle.elf_object_strings.specs.StringTable.{AreEqualTo}
use Rattle.elf_object_type.specs.Object.{ObjectValue}

-- ---- keys

abbrev pub is_same_key : OutputKey → OutputKey → Bool
is_same_key a b = a.first == b.first && (a.flags == b.flags && beq a.no_bits b.no_bits)

both_equal : (a b : Ordering) → is_eq (ordering_then a b) ≡ (is_eq a && is_eq b)
both_equal Less b = refl
both_equal Equal b = refl
both_equal Greater b = refl

one_number : (x y : ℕ) → is_eq (nat_cmp x y) ≡ (x == y)
one_number x y = grind (arith, nat_cmp_is)

one_kind : (a b : Bool) → is_eq (bool_cmp a b) ≡ beq a b
one_kind true true = refl
one_kind true false = refl
one_kind false true = refl
one_kind false false = refl

same_keys : (k q : OutputKey) → is_eq (key_cmp k q) ≡ is_same_key k q
same_keys k q =
    let kinds = bool_cmp k.no_bits q.no_bits in
    both_equal (nat_cmp k.first q.first) (ordering_then (nat_cmp k.flags q.flags) kinds) ∙
    rw (
      one_number k.first q.first,
      both_equal (nat_cmp k.flags q.flags) kinds,
      one_number k.flags q.flags,
      one_kind k.no_bits q.no_bits,
    ) refl

key_total : IsTotalOrder key_cmp
key_total =
    then_total (on_total (λ (k : OutputKey). k.first) nat_cmp_total)
    (then_total (on_total (λ (k : OutputKey). k.flags) nat_cmp_total) (on_total (λ (k : OutputKey). k.no_bits) bool_cmp_total))

and_left : (a b : Bool) → (a && b) ≡ true → a ≡ true
and_left true b both = refl
and_left false b both = both

and_right : (a b : Bool) → (a && b) ≡ true → b ≡ true
and_right true b both = both
and_right false b both = absurd (cc)

beq_is : (a b : Bool) → beq a b ≡ true → a ≡ b
beq_is true true is = refl
beq_is false false is = refl
beq_is true false is = absurd (cc)
beq_is false true is = absurd (cc)

beq_of : (a b : Bool) → a ≡ b → beq a b ≡ true
beq_of true b is = subst (λ c. beq true c ≡ true) is refl
beq_of false b is = subst (λ c. beq false c ≡ true) is refl

name_at : (fs : List ObjectValue) (ps : List Site) (k : ℕ) → k < length ps →
    get_or (site_names fs Section ps) k [] ≡ (section_at_site fs (site_at ps k)).name
name_at fs ps k lt = get_or-map (site_name fs Section) ps k (site 0 0) [] lt

-- two sections have one name exactly if the first one of the name is the same
pub one_name : (fs : List ObjectValue) (ps : List Site) (firsts : List ℕ) (i j : ℕ) → AreEqualTo (site_names fs Section ps) firsts →
    i < length ps → j < length ps → get_or firsts i 0 ≡ get_or firsts j 0 →
    (section_at_site fs (site_at ps i)).name ≡ (section_at_site fs (site_at ps j)).name
one_name fs ps firsts i j equal lt_i lt_j same =
    let many = length-map ps (site_name fs Section) in
    sym (name_at fs ps i lt_i) ∙ sym (equal.each i (omega arith)).1 ∙ ap (λ n. get_or (site_names fs Section ps) n []) same ∙
    (equal.each j (omega arith)).1 ∙ name_at fs ps j lt_j

pub one_first : (fs : List ObjectValue) (ps : List Site) (firsts : List ℕ) (i j : ℕ) → AreEqualTo (site_names fs Section ps) firsts →
    i < length ps → j < length ps → (section_at_site fs (site_at ps i)).name ≡ (section_at_site fs (site_at ps j)).name →
    get_or firsts i 0 ≡ get_or firsts j 0
one_first fs ps firsts i j equal lt_i lt_j same =
    let many = length-map ps (site_name fs Section) in
    let names = site_names fs Section ps in
    let is : get_or names i [] ≡ get_or names j [] = name_at fs ps i lt_i ∙ same ∙ sym (name_at fs ps j lt_j) in
    let (in_i, at_i) = equal.each i (omega arith) in
    let (in_j, at_j) = equal.each j (omega arith) in
    let low = equal.least i (get_or firsts j 0) (omega arith) in_j (is ∙ sym at_j) in
    let high = equal.least j (get_or firsts i 0) (omega arith) in_i (sym is ∙ sym at_i) in
    omega arith

-- two sections go to one output exactly if their keys are the same
pub one_key : (fs : List ObjectValue) (ps : List Site) (firsts : List ℕ) (i j : ℕ) (a b : OutputKey) →
    AreEqualTo (site_names fs Section ps) firsts →
    i < length ps → j < length ps → IsKeyOf fs (site_at ps i) (get_or firsts i 0) a → IsKeyOf fs (site_at ps j) (get_or firsts j 0) b →
    is_same_key a b ≡ true → HaveOneKey fs (site_at ps i) (site_at ps j)
one_key fs ps firsts i j a b equal lt_i lt_j (first, flags, kind) (first_2, flags_2, kind_2) same =
    let kinds = beq a.no_bits b.no_bits in
    let rest = and_right (a.first == b.first) (a.flags == b.flags && kinds) same in (
      one_name fs ps firsts i j equal lt_i lt_j
          (sym first ∙ eqb-true a.first b.first (and_left (a.first == b.first) (a.flags == b.flags && kinds) same) ∙ first_2),
      sym flags ∙ eqb-true a.flags b.flags (and_left (a.flags == b.flags) kinds rest) ∙ flags_2,
      sym kind ∙ beq_is a.no_bits b.no_bits (and_right (a.flags == b.flags) kinds rest) ∙ kind_2,
    )

pub key_same : (fs : List ObjectValue) (ps : List Site) (firsts : List ℕ) (i j : ℕ) (a b : OutputKey) →
    AreEqualTo (site_names fs Section ps) firsts →
    i < length ps → j < length ps → IsKeyOf fs (site_at ps i) (get_or firsts i 0) a → IsKeyOf fs (site_at ps j) (get_or firsts j 0) b →
    HaveOneKey fs (site_at ps i) (site_at ps j) → is_same_key a b ≡ true
key_same fs ps firsts i j a b equal lt_i lt_j (first, flags, kind) (first_2, flags_2, kind_2) (one, two, three) =
    rw (
      eq-eqb a.first b.first (first ∙ one_first fs ps firsts i j equal lt_i lt_j one ∙ sym first_2),
      eq-eqb a.flags b.flags (flags ∙ two ∙ sym flags_2),
      beq_of a.no_bits b.no_bits (kind ∙ three ∙ sym kind_2),
    ) refl

-- ---- keys in the order of the sections

pub keyed_more : (fs : List ObjectValue) (ps : List Site) (firsts : List ℕ) (k : ℕ) (keyed : List Keyed) (key : OutputKey) →
    IsKeyOf fs (site_at ps k) (get_or firsts k 0) key → AreKeyed fs ps firsts k keyed →
    AreKeyed fs ps firsts (k + 1) (keyed ++ record { key = key; position = k } ∷ [])
keyed_more fs ps firsts k keyed key is are =
    let x : Keyed = record { key = key; position = k } in
    record {
      each = All-push (λ y. (y.position < k + 1) × IsKeyOf fs (site_at ps y.position) (get_or firsts y.position 0) y.key) keyed x
          (All-weaker (λ y. (y.position < k) × IsKeyOf fs (site_at ps y.position) (get_or firsts y.position 0) y.key)
          (λ y. (y.position < k + 1) × IsKeyOf fs (site_at ps y.position) (get_or firsts y.position 0) y.key)
          (λ y (lt, its). (omega arith, its)) keyed are.each)
          (omega arith, is);
      all = λ j lt. elim (cases_lt j k) [
        | inl below ↦ (let (y, there, at) = are.all j below in (y, Contains-append_left keyed (x ∷ []) y there, at))
        | inr above ↦ (let same : k ≡ j = omega arith in (x, Contains-push keyed x, same))
      ];
    }

-- ---- keys in ascending order

-- an item that is read is there whatever stands for one that is not
pub at_any : (keyed : List Keyed) (a : ℕ) (x : Keyed) → a < length keyed → get_or keyed a x ≡ x → (d : Keyed) → get_or keyed a d ≡ x
at_any keyed a x lt is = at_read keyed (λ y. y ≡ x) a x lt (sym is) refl

pub keyed_moved : (fs : List ObjectValue) (ps : List Site) (firsts : List ℕ) (n : ℕ) (xs ys : List Keyed) → IsPermutation xs ys →
    AreKeyed fs ps firsts n xs → AreKeyed fs ps firsts n ys
keyed_moved fs ps firsts n xs ys moved are = record {
  each = All-permutation
      (λ x. (x.position < n) × IsKeyOf fs (site_at ps x.position) (get_or firsts x.position 0) x.key) xs ys moved are.each;
  all = λ k lt. (let (x, there, at) = are.all k lt in (x, Contains-permutation xs ys x moved there, at));
}

neither : (o : Ordering) → is_lt o ≡ false → is_lt (ordering_reverse o) ≡ false → o ≡ Equal
neither Less first second = absurd (cc)
neither Equal first second = refl
neither Greater first second = absurd (cc)

module _ (fs : List ObjectValue) (ps : List Site) (firsts : List ℕ) (equal : AreEqualTo (site_names fs Section ps) firsts)
    (keyed : List Keyed)
    (are : AreKeyed fs ps firsts (length ps) keyed) (up : AreKeysAscending keyed) where
  abbrev spot : Keyed → ℕ → ℕ
  spot d a = (get_or keyed a d).position

  abbrev One : Keyed → ℕ → ℕ → Type 0
  One d a b = HaveOneKey fs (site_at ps (spot d a)) (site_at ps (spot d b))

  -- what is between two keys that are the same is the same too
  between : (d : Keyed) (a m : ℕ) → a ≤ m → m + 1 < length keyed → One d a (m + 1) → One d m (m + 1)
  between d a m le lt (one, two, three) =
      let m_in : m < length keyed = omega arith in
      let (a_below, (first, flags, kind)) = are.each a d (omega arith) in
      let (m_below, mid) = are.each m d m_in in
      let (end_below, end) = are.each (m + 1) d lt in
      let (first_2, flags_2, kind_2) = end in
      let ka = (get_or keyed a d).key in
      let km = (get_or keyed m d).key in
      let ki = (get_or keyed (m + 1) d).key in
      let names : ka.first ≡ ki.first =
      first ∙ one_first fs ps firsts (spot d a) (spot d (m + 1)) equal a_below end_below one ∙ sym first_2 in
      let flagss : ka.flags ≡ ki.flags = flags ∙ two ∙ sym flags_2 in
      let kinds : ka.no_bits ≡ ki.no_bits = kind ∙ three ∙ sym kind_2 in
      let far : is_lt (key_cmp km ka) ≡ false =
      sorted_far (λ (x y : Keyed). is_lt (key_cmp x.key y.key)) (ranks_by key_total (λ (x : Keyed). x.key)) keyed up a m d le m_in in
      let moved : key_cmp km ka ≡ key_cmp km ki = rw (names, flagss, kinds) refl in
      let equals =
      neither (key_cmp km ki) (ap is_lt (sym moved) ∙ far) (ap is_lt (sym (key_total.antisymm ki km)) ∙ up m d (omega arith) lt) in
      one_key fs ps firsts (spot d m) (spot d (m + 1)) km ki equal m_below end_below mid end (sym (same_keys km ki) ∙ ap is_eq equals)

  -- the key of the item that is read
  its_key : (m : ℕ) (x : Keyed) → m < length keyed → ((d : Keyed) → get_or keyed m d ≡ x) → (d : Keyed) →
      (x.position < length ps) × IsKeyOf fs (site_at ps x.position) (get_or firsts x.position 0) x.key
  its_key m x lt at d =
      subst (λ z. (z.position < length ps) × IsKeyOf fs (site_at ps z.position) (get_or firsts z.position 0) z.key) (at d) (are.each m d lt)

  -- the key that is read is the one before it again, or another one
  pub decided : (m : ℕ) (x y : Keyed) → m + 1 < length keyed → ((d : Keyed) → get_or keyed (m + 1) d ≡ x) →
      ((d : Keyed) → get_or keyed m d ≡ y) → (d : Keyed) →
      is_same_key x.key y.key ≡ true → One d m (m + 1)
  decided m x y lt at before d same =
      let (x_below, one) = its_key (m + 1) x lt at d in
      let (y_below, other) = its_key m y (omega arith) before d in
      subst (λ z. HaveOneKey fs (site_at ps (get_or keyed m d).position) (site_at ps z.position)) (sym (at d))
      (subst (λ z. HaveOneKey fs (site_at ps z.position) (site_at ps x.position)) (sym (before d))
      (key_swap fs (site_at ps x.position) (site_at ps y.position)
      (one_key fs ps firsts x.position y.position x.key y.key equal x_below y_below one other same)))

  pub apart : (m : ℕ) (x y : Keyed) → m + 1 < length keyed → ((d : Keyed) → get_or keyed (m + 1) d ≡ x) →
      ((d : Keyed) → get_or keyed m d ≡ y) → (d : Keyed) →
      is_same_key x.key y.key ≡ false → One d m (m + 1) → ⊥
  apart m x y lt at before d differ key =
      let (x_below, one) = its_key (m + 1) x lt at d in
      let (y_below, other) = its_key m y (omega arith) before d in
      let joined : HaveOneKey fs (site_at ps y.position) (site_at ps x.position) =
      subst (λ z. HaveOneKey fs (site_at ps y.position) (site_at ps z.position)) (at d)
      (subst (λ z. HaveOneKey fs (site_at ps z.position) (site_at ps (get_or keyed (m + 1) d).position)) (before d) key) in
      true≢false (sym (key_same fs ps firsts x.position y.position x.key y.key equal x_below y_below one other
      (key_swap fs (site_at ps y.position) (site_at ps x.position) joined)) ∙ differ)

  module _ (m number v q : ℕ) (numbers : List ℕ) (lt : m + 1 < length keyed) (here : (d : Keyed) → spot d (m + 1) ≡ q)
      (which : (d : Keyed) → (One d m (m + 1) × (v ≡ number)) ⊎ ((One d m (m + 1) → ⊥) × (v ≡ number + 1)))
      (so_far : AreCounted fs ps keyed (m + 1) number numbers) where
    abbrev now : List ℕ
    now = set numbers q v

    q_in : (d : Keyed) → q < length numbers
    q_in d = let count = so_far.count in let in_ps = (are.each (m + 1) d lt).0 in let at = here d in omega arith

    set_here : (d : Keyed) → slice_index now (spot d (m + 1)) ≡ v
    set_here d = ap (slice_index now) (here d) ∙ get_or-set_same numbers q v 0 (q_in d)

    last_is : (d : Keyed) → slice_index numbers (spot d m) ≡ number
    last_is d = so_far.last m d refl (omega arith)

    -- the number of an earlier key of one output is the last one
    earlier : (d : Keyed) (a : ℕ) → a < m + 1 → One d a (m + 1) → slice_index numbers (spot d a) ≡ v
    earlier d a below one =
        let joined = between d a m (omega arith) lt one in
        elim (which d) [
          | inl (key, is) ↦ (so_far.same a m d below (omega arith) (omega arith) (omega arith)).1
              (key_join fs (site_at ps (spot d a)) (site_at ps (spot d (m + 1))) (site_at ps (spot d m)) one
              (key_swap fs (site_at ps (spot d m)) (site_at ps (spot d (m + 1))) joined)) ∙ last_is d ∙ sym is
          | inr (never, is) ↦ absurd (never joined)
        ]

    kept : (d : Keyed) (a : ℕ) → a < m + 1 → slice_index now (spot d a) ≡ slice_index numbers (spot d a)
    kept d a below = elim (cases_eq (spot d a) q) [
      | inr differ ↦ get_or-set_other numbers q (spot d a) v 0 differ
      | inl same ↦ (
          let at : spot d a ≡ spot d (m + 1) = same ∙ sym (here d) in
          ap (slice_index now) at ∙ set_here d ∙
          sym (earlier d a below (subst (λ n. HaveOneKey fs (site_at ps (spot d a)) (site_at ps n)) at (refl, refl, refl))))
    ]

    across : (d : Keyed) (a : ℕ) → a < m + 1 → (slice_index now (spot d a) ≡ slice_index now (spot d (m + 1))) ↔ One d a (m + 1)
    across d a below = (
      (λ equal. (
          let at : slice_index numbers (spot d a) ≡ v = sym (kept d a below) ∙ equal ∙ set_here d in
          elim (which d) [
            | inl (key, is) ↦ key_join fs (site_at ps (spot d a)) (site_at ps (spot d m)) (site_at ps (spot d (m + 1)))
                ((so_far.same a m d below (omega arith) (omega arith) (omega arith)).0 (at ∙ is ∙ sym (last_is d))) key
            | inr (never, is) ↦ absurd (let least = so_far.below a d below (omega arith) in omega arith)
          ])),
      (λ one. kept d a below ∙ earlier d a below one ∙ sym (set_here d)),
    )

    pub counted_next : AreCounted fs ps keyed (m + 1 + 1) v now
    counted_next = record {
      count = length-set numbers q v ∙ so_far.count;
      small = (let small = so_far.small in
          elim (which (get_or keyed 0 (record { key = record { first = 0; flags = 0; no_bits = false }; position = 0 }))) [
            | inl (key, is) ↦ omega arith
            | inr (never, is) ↦ omega arith
          ]);
      last = λ n d next n_in. (let at : m + 1 ≡ n = omega arith in subst (λ i. slice_index now (spot d i) ≡ v) at (set_here d));
      below = λ a d a_lt a_in. elim (cases_lt a (m + 1)) [
        | inl before ↦ (
            let kept_a = kept d a before in
            let least = so_far.below a d before a_in in
            elim (which d) [
              | inl (key, is) ↦ omega arith
              | inr (never, is) ↦ omega arith
            ])
        | inr above ↦
            (let at : m + 1 ≡ a = omega arith in subst (λ i. slice_index now (spot d i) < v + 1) at (let is = set_here d in omega arith))
      ];
      same = λ a b d a_lt b_lt a_in b_in. elim (cases_lt a (m + 1)) [
        | inl a_before ↦ elim (cases_lt b (m + 1)) [
          | inl b_before ↦ rw (kept d a a_before, kept d b b_before) (so_far.same a b d a_before b_before a_in b_in)
          | inr b_above ↦ (
              let at : m + 1 ≡ b = omega arith in
              subst (λ i. (slice_index now (spot d a) ≡ slice_index now (spot d i)) ↔ One d a i) at (across d a a_before))
        ]
        | inr a_above ↦ (
            let at : m + 1 ≡ a = omega arith in
            subst (λ i. (slice_index now (spot d i) ≡ slice_index now (spot d b)) ↔ One d i b) at
            (elim (cases_lt b (m + 1)) [
              | inl b_before ↦ (
                (λ equal. key_swap fs (site_at ps (spot d b)) (site_at ps (spot d (m + 1))) ((across d b b_before).0 (sym equal))),
                (λ one. sym ((across d b b_before).1 (key_swap fs (site_at ps (spot d (m + 1))) (site_at ps (spot d b)) one))),
              )
              | inr b_above ↦ (
                  let at_b : m + 1 ≡ b = omega arith in
                  subst (λ i. (slice_index now (spot d (m + 1)) ≡ slice_index now (spot d i)) ↔ One d (m + 1) i) at_b
                  ((λ equal. (refl, refl, refl)), (λ one. refl)))
            ]))
      ];
    }

  -- so a key is read
  pub counted_read : (i number v : ℕ) (numbers : List ℕ) (x y : Keyed) → 0 < i → i < length keyed → x ≡ get_or keyed i x →
      y ≡ get_or keyed (i - 1) y →
      ((is_same_key x.key y.key ≡ true) × (v ≡ number)) ⊎ ((is_same_key x.key y.key ≡ false) × (v ≡ number + 1)) →
      AreCounted fs ps keyed i number numbers → AreCounted fs ps keyed (i + 1) v (set numbers x.position v)
  counted_read i number v numbers x y some lt x_is y_is which so_far =
      let m : ℕ = i - 1 in
      let back : m + 1 ≡ i = omega arith in
      let next_in : m + 1 < length keyed = omega arith in
      let at = at_any keyed (m + 1) x next_in (subst (λ n. get_or keyed n x ≡ x) (sym back) (sym x_is)) in
      let before = at_any keyed m y (omega arith) (sym y_is) in
      subst (λ n. AreCounted fs ps keyed (n + 1) v (set numbers x.position v)) back
      (counted_next m number v x.position numbers next_in (λ d. ap (λ z. z.position) (at d))
      (λ d. elim which [
        | inl (same, is) ↦ inl (decided m x y next_in at before d same, is)
        | inr (differ, is) ↦ inr (apart m x y next_in at before d differ, is)
      ]) (subst (λ n. AreCounted fs ps keyed n number numbers) (sym back) so_far))

  -- all are numbered
  pub counted_all : (i number : ℕ) (numbers : List ℕ) → length keyed ≤ i → AreCounted fs ps keyed i number numbers →
      AreKeyNumbers fs ps numbers
  counted_all i number numbers le all = record {
    count = all.count;
    same = λ j k j_in k_in. (
        let (x, (a, a_in, a_at), x_is) = are.all j j_in in
        let (y, (b, b_in, b_at), y_is) = are.all k k_in in
        let one : (d : Keyed) → get_or keyed a d ≡ x = at_any keyed a x a_in a_at in
        let other : (d : Keyed) → get_or keyed b d ≡ y = at_any keyed b y b_in b_at in
        rw (ap (λ z. z.position) (one x) ∙ x_is, ap (λ z. z.position) (other x) ∙ y_is) at
        (all.same a b x (omega arith) (omega arith) a_in b_in));
  }
