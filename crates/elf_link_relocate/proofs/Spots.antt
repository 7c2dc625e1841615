-- The search for fields that share a byte. The spots of all fields are sorted, so those of one section stand side by side (`side_by_side`),
-- and a pass over them searches one section after the other. Two spots have different positions (`once`), also after they were moved. So
-- two extents that hold a byte are those of two fields.
use Rattle.std.proofs.Common.{◌≡◌, ℕ, ◌+◌, ◌-◌, ◌<◌, ◌≤◌, ◌⊎◌, true, false, List, [], ◌∷◌, ◌++◌, length, map, inl, inr, refl}
use Rattle.std.proofs.Common.{sym, ◌∙◌, ap, subst, arith, length-append}
use Rattle.std.specs.Prelude.{◌↔◌, None, Option, Some, is_some, if◌then◌else◌, option_map, slice_get}
use Rattle.std.specs.List.{between, swap}
use Rattle.std.specs.List.Sorted.{IsPermutation}
use Rattle.std.specs.Cmp.{IsTotalOrder, nat_cmp_is, nat_cmp_total}
use Rattle.std.specs.Ordering.{is_lt, nat_cmp, ordering_then}
use Rattle.std.specs.declared.cmp.Ordering.{Ordering}
use Rattle.std.specs.declared.cmp.Ordering.TheVariants.{Less, Equal}
use Rattle.std.proofs.lemmas.Bool.{cases_lt, cases_eq, lt-ltb, le-ltb, true≢false}
use Rattle.std.proofs.lemmas.Cmp.{on_total, then_total}
use Rattle.std.proofs.lemmas.List.{get_or_append_left, get_or_push, length-map}
use Rattle.std.proofs.lemmas.List.Edits.{get_or-between, length-between, swapped_from_swap}
use Rattle.std.proofs.lemmas.List.Elements.{at_read, All-push, All-weaker, Contains-append_left, Contains-push}
use Rattle.std.proofs.lemmas.List.Sorted.{All-permutation, Contains-permutation, IsPermutation-keeps, IsPermutation-swap}
use Rattle.std.proofs.lemmas.List.Sorted.{length_permutation, ranks_by, sorted_far}
use Rattle.std.proofs.lemmas.Option.{slice_get-get_or, slice_get-map, slice_get_within}
use Rattle.elf_extent.specs.Extent.{Doubly, Has, HasAt, IsLowest}
use Rattle.elf_extent.specs.declared.extent.Extent.{Extent}
use Rattle.elf_link_field.specs.Field.{size_of}
use Rattle.elf_link_relocate.specs.Passes.{ArePlacedOnce, AreSharing, AreSorted, AreSpots, AreTogether, HasByte, HasShared, IsFollowed}
use Rattle.elf_link_relocate.specs.Passes.{IsLastOfTarget, IsSpotIn, field_extent, field_at, no_spot, spot_at, spot_cmp}
use Rattle.elf_link_relocate.specs.declared.field.Field.{Field}
use Rattle.elf_link_relocate.specs.declared.overlaps.Spot.{Spot}

-- ---- the spots, in the order of the list

pub spots_none : (ds : List Field) → AreSpots ds 0 []
spots_none ds = record {
  each = λ k d lt. absurd (omega arith);
  all = λ k lt. absurd (omega arith);
  once = λ a b lt. absurd (omega arith);
}

module _ (ds : List Field) (n : ℕ) (spots : List Spot) (s : Spot) (is : IsSpotIn ds (n + 1) s) (last : s.position ≡ n)
    (are : AreSpots ds n spots) where
  abbrev now : List Spot
  now = spots ++ s ∷ []

  old : (a : ℕ) → a < length spots → spot_at now a ≡ spot_at spots a
  old a lt = get_or_append_left spots (s ∷ []) no_spot a lt

  new : (a : ℕ) → length spots ≡ a → spot_at now a ≡ s
  new a at = get_or_push spots s no_spot a at

  below : (a : ℕ) → a < length spots → (spot_at now a).position < n
  below a lt = subst (λ z. z.position < n) (sym (old a lt)) (are.each a no_spot lt).within

  again : (a : ℕ) → length spots ≡ a → (spot_at now a).position ≡ n
  again a at = ap (λ z. z.position) (new a at) ∙ last

  once_more : (a b : ℕ) → a < length now → b < length now → (spot_at now a).position ≡ (spot_at now b).position → a ≡ b
  once_more a b a_in b_in same =
      let long = length-append spots (s ∷ []) in
      elim (cases_lt a (length spots)) [
        | inl a_before ↦ elim (cases_lt b (length spots)) [
          | inl b_before ↦ are.once a b a_before b_before
              (ap (λ z. z.position) (sym (old a a_before)) ∙ same ∙ ap (λ z. z.position) (old b b_before))
          | inr b_above ↦ absurd (let low = below a a_before in let high = again b (omega arith) in omega arith)
        ]
        | inr a_above ↦ elim (cases_lt b (length spots)) [
          | inl b_before ↦ absurd (let low = below b b_before in let high = again a (omega arith) in omega arith)
          | inr b_above ↦ omega arith
        ]
      ]

  pub spots_more : AreSpots ds (n + 1) now
  spots_more = record {
    each = All-push (IsSpotIn ds (n + 1)) spots s
        (All-weaker (IsSpotIn ds n) (IsSpotIn ds (n + 1)) (λ z at. record {
          within = (let lt = at.within in omega arith);
          file = at.file;
          target = at.target;
          offset = at.offset;
        }) spots are.each) is;
    all = λ k lt. elim (cases_lt k n) [
      | inl before ↦ (let (z, there, at) = are.all k before in (z, Contains-append_left spots (s ∷ []) z there, at))
      | inr above ↦ (s, Contains-push spots s, (let at = last in omega arith))
    ];
    once = once_more;
  }

-- ---- the spots in another order

-- where an item of a list was before two of its items changed places
abbrev Moved : ℕ → ℕ → ℕ → ℕ → Type 0
Moved i j a k = ((a ≡ i) × (k ≡ j)) ⊎ (((a ≡ j) × (k ≡ i)) ⊎ (((a ≡ i → ⊥) × (a ≡ j → ⊥)) × (k ≡ a)))

source : (l : List Spot) (i j : ℕ) → i < length l → j < length l → (a : ℕ) → a < length l →
    (k : ℕ) × (k < length l) × (spot_at (swap l i j) a ≡ spot_at l k) × Moved i j a k
source l i j i_in j_in a lt =
    let (at_i, at_j, rest) = swapped_from_swap l (swap l i j) i j no_spot i_in j_in refl in
    elim (cases_eq a i) [
      | inl first ↦ (j, j_in, ap (spot_at (swap l i j)) first ∙ at_i, inl (first, refl))
      | inr not_first ↦ elim (cases_eq a j) [
        | inl second ↦ (i, i_in, ap (spot_at (swap l i j)) second ∙ at_j, inr (inl (second, refl)))
        | inr not_second ↦ (a, lt, rest a not_first not_second, inr (inr ((not_first, not_second), refl)))
      ]
    ]

one_source : (i j a b k : ℕ) → Moved i j a k → Moved i j b k → a ≡ b
one_source i j a b k (inl (p, q)) (inl (r, s)) = p ∙ sym r
one_source i j a b k (inl (p, q)) (inr (inl (r, s))) = omega arith
one_source i j a b k (inl (p, q)) (inr (inr ((n, m), s))) = absurd (m (sym s ∙ q))
one_source i j a b k (inr (inl (p, q))) (inl (r, s)) = omega arith
one_source i j a b k (inr (inl (p, q))) (inr (inl (r, s))) = p ∙ sym r
one_source i j a b k (inr (inl (p, q))) (inr (inr ((n, m), s))) = absurd (n (sym s ∙ q))
one_source i j a b k (inr (inr ((n, m), q))) (inl (r, s)) = absurd (m (sym q ∙ s))
one_source i j a b k (inr (inr ((n, m), q))) (inr (inl (r, s))) = absurd (n (sym q ∙ s))
one_source i j a b k (inr (inr (_, q))) (inr (inr (_, s))) = sym q ∙ s

swapped_once : (l : List Spot) (i j : ℕ) → i < length l → j < length l → ArePlacedOnce l → ArePlacedOnce (swap l i j)
swapped_once l i j i_in j_in once a b a_in b_in same =
    let long = length_permutation l (swap l i j) (IsPermutation-swap l (swap l i j) i j i_in j_in refl) in
    let (k, k_in, k_at, k_is) = source l i j i_in j_in a (omega arith) in
    let (n, n_in, n_at, n_is) = source l i j i_in j_in b (omega arith) in
    let one : k ≡ n = once k n k_in n_in (ap (λ s. s.position) (sym k_at) ∙ same ∙ ap (λ s. s.position) n_at) in
    one_source i j a b k k_is (subst (Moved i j b) (sym one) n_is)

pub spots_moved : (ds : List Field) (n : ℕ) (xs ys : List Spot) → IsPermutation xs ys → AreSpots ds n xs → AreSpots ds n ys
spots_moved ds n xs ys moved are = record {
  each = All-permutation (IsSpotIn ds n) xs ys moved are.each;
  all = λ k lt. (let (s, there, at) = are.all k lt in (s, Contains-permutation xs ys s moved there, at));
  once = IsPermutation-keeps xs ArePlacedOnce are.once (λ l i j i_in j_in once. swapped_once l i j i_in j_in once) ys moved;
}

-- ---- spots of one section stand side by side

spot_total : IsTotalOrder spot_cmp
spot_total =
    then_total (on_total (λ (s : Spot). s.file) nat_cmp_total)
    (then_total (on_total (λ (s : Spot). s.target) nat_cmp_total)
    (then_total (on_total (λ (s : Spot). s.offset) nat_cmp_total) (on_total (λ (s : Spot). s.position) nat_cmp_total)))

-- what comes first does not decide, or leaves the rest to decide
first_decides : (x y : ℕ) (rest : Ordering) → is_lt (ordering_then (nat_cmp x y) rest) ≡ false → (y ≤ x) × (x ≡ y → is_lt rest ≡ false)
first_decides x y rest not_less = elim (cases_lt x y) [
  | inl less ↦ absurd (true≢false (subst (λ o. is_lt (ordering_then o rest) ≡ false) (sym (nat_cmp_is x y Less less)) not_less))
  | inr above ↦ (above, λ same. subst (λ o. is_lt (ordering_then o rest) ≡ false) (sym (nat_cmp_is x y Equal same)) not_less)
]

in_order : (s t : Spot) → is_lt (spot_cmp t s) ≡ false →
    (s.file ≤ t.file) × (t.file ≡ s.file → (s.target ≤ t.target) × (t.target ≡ s.target → s.offset ≤ t.offset))
in_order s t not_less =
    let rest = ordering_then (nat_cmp t.offset s.offset) (nat_cmp t.position s.position) in
    let (file, same) = first_decides t.file s.file (ordering_then (nat_cmp t.target s.target) rest) not_less in (
      file,
      λ one. (
          let (target, again) = first_decides t.target s.target rest (same one) in
          (target, λ two. (first_decides t.offset s.offset (nat_cmp t.position s.position) (again two)).0)),
    )

module _ (spots : List Spot) (up : AreSorted spots) where
  pub ordered : (a m : ℕ) → a ≤ m → m < length spots →
      ((spot_at spots a).file ≤ (spot_at spots m).file) ×
      ((spot_at spots m).file ≡ (spot_at spots a).file →
      ((spot_at spots a).target ≤ (spot_at spots m).target) ×
      ((spot_at spots m).target ≡ (spot_at spots a).target → (spot_at spots a).offset ≤ (spot_at spots m).offset))
  ordered a m le lt =
      in_order (spot_at spots a) (spot_at spots m)
      (sorted_far (λ (x y : Spot). is_lt (spot_cmp x y)) (ranks_by spot_total (λ (x : Spot). x)) spots up a m no_spot le lt)

  pub side_by_side : (a m i b : ℕ) → a ≤ m → m ≤ i → i ≤ b → b < length spots → AreTogether (spot_at spots a) (spot_at spots b) →
      AreTogether (spot_at spots m) (spot_at spots i)
  side_by_side a m i b a_m m_i i_b lt (file, target) =
      let (f1, t1) = ordered a m a_m (omega arith) in
      let (f2, t2) = ordered m i m_i (omega arith) in
      let (f3, t3) = ordered i b i_b lt in
      let one : (spot_at spots m).file ≡ (spot_at spots a).file = omega arith in
      let two : (spot_at spots i).file ≡ (spot_at spots m).file = omega arith in
      let three : (spot_at spots b).file ≡ (spot_at spots i).file = omega arith in
      let low = (t1 one).0 in
      let mid = (t2 two).0 in
      let high = (t3 three).0 in
      (sym two, omega arith)

-- ---- extents of a run of spots

module _ (ds : List Field) (n : ℕ) (spots : List Spot) where
  abbrev extents : ℕ → ℕ → List Extent
  extents from end = map (field_extent ds n) (between from end spots)

  -- two spots share a byte
  abbrev Meet : ℕ → ℕ → Type 0
  Meet a b = (x : ℕ) × Has (field_extent ds n (spot_at spots a)) x × Has (field_extent ds n (spot_at spots b)) x

  extent_at : (from end k : ℕ) → from + k < end → end ≤ length spots →
      slice_get (extents from end) k ≡ Some (field_extent ds n (spot_at spots (from + k)))
  extent_at from end k lt le =
      let run = between from end spots in
      let long = length-between spots from end le in
      slice_get-map (field_extent ds n) run k ∙
      ap (option_map (field_extent ds n)) (slice_get-get_or run k no_spot (omega arith)) ∙
      ap (λ s. Some (field_extent ds n s)) (get_or-between spots from end k no_spot lt)

  same_extent : (e f : Extent) → Some e ≡ Some f → e ≡ f
  same_extent e f same = cc

  held_at : (from end k x : ℕ) → end ≤ length spots → HasAt (extents from end) k x →
      (from + k < end) × Has (field_extent ds n (spot_at spots (from + k))) x
  held_at from end k x le (e, at, has) =
      let many = slice_get_within (extents from end) k e at in
      let long = length-map (between from end spots) (field_extent ds n) in
      let run = length-between spots from end le in
      let lt : from + k < end = omega arith in
      (lt, subst (λ z. Has z x) (same_extent e (field_extent ds n (spot_at spots (from + k))) (sym at ∙ extent_at from end k lt le)) has)

  pub meeting : (from end : ℕ) → end ≤ length spots → ((x : ℕ) × Doubly (extents from end) x) →
      (a b : ℕ) × (from ≤ a) × (a < b) × (b < end) × Meet a b
  meeting from end le (x, (i, j, lt, first, second)) =
      let (i_in, one) = held_at from end i x le first in
      let (j_in, two) = held_at from end j x le second in
      (from + i, from + j, omega arith, omega arith, j_in, (x, one, two))

  pub doubled : (from end a b : ℕ) → end ≤ length spots → from ≤ a → a < b → b < end → Meet a b → (x : ℕ) × Doubly (extents from end) x
  doubled from end a b le from_a lt b_in (x, one, two) =
      let at_a : from + (a - from) ≡ a = omega arith in
      let at_b : from + (b - from) ≡ b = omega arith in (
        x,
        (
          a - from,
          b - from,
          omega arith,
          (
            field_extent ds n (spot_at spots a),
            extent_at from end (a - from) (omega arith) le ∙ ap (λ i. Some (field_extent ds n (spot_at spots i))) at_a,
            one,
          ),
          (
            field_extent ds n (spot_at spots b),
            extent_at from end (b - from) (omega arith) le ∙ ap (λ i. Some (field_extent ds n (spot_at spots i))) at_b,
            two,
          ),
        ),
      )

-- ---- fields and their spots

-- an extent that holds a byte is that of a field among the first n, which has it
has_byte : (ds : List Field) (n x : ℕ) (s : Spot) → IsSpotIn ds (length ds) s → Has (field_extent ds n s) x →
    (s.position < n) × HasByte (field_at ds s.position) x
has_byte ds n x s is (from, end) = elim (cases_lt s.position n) [
  | inl lt ↦ (
      let width = subst (λ c. x < s.offset + (if c then size_of (field_at ds s.position).rule.width else 0)) (lt-ltb s.position n lt) end in
      let start = is.offset in
      (lt, (omega arith, omega arith)))
  | inr le ↦ (
      let width = subst (λ c. x < s.offset + (if c then size_of (field_at ds s.position).rule.width else 0)) (le-ltb s.position n le) end in
      absurd (omega arith))
]

pub byte_held : (ds : List Field) (n x : ℕ) (s : Spot) → IsSpotIn ds (length ds) s → s.position < n → HasByte (field_at ds s.position) x →
    Has (field_extent ds n s) x
byte_held ds n x s is lt (from, end) =
    let start = is.offset in (
      omega arith,
      subst (λ c. x < s.offset + (if c then size_of (field_at ds s.position).rule.width else 0)) (sym (lt-ltb s.position n lt))
          (omega arith),
    )

pub sharing_swap : (d e : Field) → AreSharing d e → AreSharing e d
sharing_swap d e (file, target, (x, one, two)) = (sym file, sym target, (x, two, one))

module _ (ds : List Field) (n : ℕ) (spots : List Spot) (are : AreSpots ds (length ds) spots) where
  abbrev its : ℕ → ℕ
  its a = (spot_at spots a).position

  pub met_shared : (a b : ℕ) → a < b → b < length spots → AreTogether (spot_at spots a) (spot_at spots b) → Meet ds n spots a b →
      HasShared ds n
  met_shared a b lt b_in (file, target) (x, one, two) =
      let s = spot_at spots a in
      let t = spot_at spots b in
      let is_s = are.each a no_spot (omega arith) in
      let is_t = are.each b no_spot b_in in
      let (s_in, first) = has_byte ds n x s is_s one in
      let (t_in, second) = has_byte ds n x t is_t two in
      let sharing : AreSharing (field_at ds s.position) (field_at ds t.position) =
      (sym is_s.file ∙ file ∙ is_t.file, sym is_s.target ∙ target ∙ is_t.target, (x, first, second)) in
      elim (cases_lt s.position t.position) [
        | inl below ↦ (s.position, t.position, below, t_in, sharing)
        | inr above ↦ elim (cases_eq s.position t.position) [
          | inl same ↦ absurd (let one_place = are.once a b (omega arith) b_in same in omega arith)
          | inr differ ↦ (t.position, s.position, omega arith, s_in, sharing_swap (field_at ds s.position) (field_at ds t.position) sharing)
        ]
      ]

  -- where the spot of a field is
  pub place : (k : ℕ) → k < length ds → (a : ℕ) × (a < length spots) × (its a ≡ k)
  place k lt =
      let (s, (a, a_in, at), is) = are.all k lt in
      let there : spot_at spots a ≡ s = at_read spots (λ y. y ≡ s) a s a_in (sym at) refl no_spot in
      (a, a_in, ap (λ z. z.position) there ∙ is)

  -- two fields that share a byte have spots that do
  sharing_met : (a b j k : ℕ) → a < length spots → b < length spots → its a ≡ j → its b ≡ k → j < n → k < n →
      AreSharing (field_at ds j) (field_at ds k) →
      AreTogether (spot_at spots a) (spot_at spots b) × Meet ds n spots a b
  sharing_met a b j k a_in b_in at_a at_b j_in k_in sharing =
      let is_s = are.each a no_spot a_in in
      let is_t = are.each b no_spot b_in in
      let (file, target, (x, one, two)) = subst (λ i. AreSharing (field_at ds (its a)) (field_at ds i)) (sym at_b)
      (subst (λ i. AreSharing (field_at ds i) (field_at ds k)) (sym at_a) sharing) in (
        (is_s.file ∙ file ∙ sym is_t.file, is_s.target ∙ target ∙ sym is_t.target),
        (x, byte_held ds n x (spot_at spots a) is_s (omega arith) one, byte_held ds n x (spot_at spots b) is_t (omega arith) two),
      )

  -- where no two spots of one section share a byte, no two fields do
  pub none_met : n ≤ length ds →
      ((a b : ℕ) → a < b → b < length spots → AreTogether (spot_at spots a) (spot_at spots b) → Meet ds n spots a b → ⊥) → HasShared ds n →
      ⊥
  none_met le apart (j, k, lt, k_in, sharing) =
      let (a, a_in, at_a) = place j (omega arith) in
      let (b, b_in, at_b) = place k (omega arith) in
      elim (cases_lt a b) [
        | inl below ↦ (
            let (together, meet) = sharing_met a b j k a_in b_in at_a at_b (omega arith) k_in sharing in
            apart a b below b_in together meet)
        | inr above ↦ elim (cases_eq a b) [
          | inl same ↦ (let one : its a ≡ its b = ap its same in omega arith)
          | inr differ ↦ (
              let (together, meet) =
              sharing_met b a k j b_in a_in at_b at_a k_in (omega arith) (sharing_swap (field_at ds j) (field_at ds k) sharing) in
              apart b a (omega arith) a_in together meet)
        ]
      ]

-- ---- the pass over the sections

-- the spots before `from` are searched, and those from there to i are of one section
pub record AreSearched (ds : List Field) (n : ℕ) (spots : List Spot) (i from : ℕ) : Type 0 where
  pub within : from ≤ i
  pub unended : from < i → i < length spots
  pub run : (a : ℕ) → from ≤ a → a ≤ i → i < length spots → AreTogether (spot_at spots a) (spot_at spots i)
  pub apart : (a b : ℕ) → a < from → a < b → b < length spots → AreTogether (spot_at spots a) (spot_at spots b) → Meet ds n spots a b → ⊥

pub searched_none : (ds : List Field) (n : ℕ) (spots : List Spot) → AreSearched ds n spots 0 0
searched_none ds n spots = record {
  within = omega arith;
  unended = λ lt. absurd (omega arith);
  run = λ a from le lt. (let at : 0 ≡ a = omega arith in subst (λ i. AreTogether (spot_at spots i) (spot_at spots 0)) at (refl, refl));
  apart = λ a b lt. absurd (omega arith);
}

module _ (ds : List Field) (n : ℕ) (spots : List Spot) (i from : ℕ) (lt : i < length spots) (so_far : AreSearched ds n spots i from) where
  itself : (a : ℕ) → a ≡ i + 1 → AreTogether (spot_at spots a) (spot_at spots (i + 1))
  itself a at = subst (λ k. AreTogether (spot_at spots k) (spot_at spots (i + 1))) (sym at) (refl, refl)

  pub searched_on : IsFollowed spots i → AreSearched ds n spots (i + 1) from
  searched_on (next, (file, target)) = record {
    within = (let le = so_far.within in omega arith);
    unended = λ below. next;
    run = λ a from_a a_le next_in. elim (cases_lt i a) [
      | inl last ↦ itself a (omega arith)
      | inr before ↦ (
          let (f, t) = so_far.run a from_a before lt in
          (f ∙ file, t ∙ target))
    ];
    apart = so_far.apart;
  }

  pub searched_past : AreSorted spots → IsLastOfTarget spots i → (((x : ℕ) × Doubly (extents ds n spots from (i + 1)) x) → ⊥) →
      AreSearched ds n spots (i + 1) (i + 1)
  searched_past up last none = record {
    within = omega arith;
    unended = λ below. absurd (omega arith);
    run = λ a from_a a_le next_in. itself a (omega arith);
    apart = λ a b a_lt a_b b_in together meet. elim (cases_lt a from) [
      | inl before ↦ so_far.apart a b before a_b b_in together meet
      | inr after ↦ elim (cases_lt i b) [
        | inl past ↦ last (omega arith) (side_by_side spots up a i (i + 1) b (omega arith) (omega arith) (omega arith) b_in together)
        | inr here ↦ none (doubled ds n spots from (i + 1) a b (omega arith) after a_b (omega arith) meet)
      ]
    ];
  }

  pub found_shared : AreSpots ds (length ds) spots → ((x : ℕ) × Doubly (extents ds n spots from (i + 1)) x) → HasShared ds n
  found_shared are double =
      let (a, b, from_a, a_b, b_in, meet) = meeting ds n spots from (i + 1) (omega arith) double in
      let (f, t) = so_far.run a from_a (omega arith) lt in
      let (g, u) = so_far.run b (omega arith) (omega arith) lt in
      met_shared ds n spots are a b a_b (omega arith) (f ∙ sym g, t ∙ sym u) meet

pub searched_all : (ds : List Field) (n : ℕ) (spots : List Spot) (i from : ℕ) → AreSpots ds (length ds) spots → n ≤ length ds →
    length spots ≤ i → AreSearched ds n spots i from → HasShared ds n → ⊥
searched_all ds n spots i from are le past all =
    none_met ds n spots are le (λ a b a_b b_in. (
    let le_i = all.within in
    elim (cases_lt from i) [
      | inl later ↦ absurd (let lt = all.unended later in omega arith)
      | inr closed ↦ all.apart a b (omega arith) a_b b_in
    ]))

-- ---- what a search finds

pub found_double : (es : List Extent) (found : Option ℕ) → IsLowest (Doubly es) found → (is_some found ≡ true) ↔ ((x : ℕ) × Doubly es x)
found_double es None never = ((λ yes. absurd (true≢false (sym yes))), (λ (x, double). absurd (never x double)))
found_double es (Some x) least = ((λ yes. (x, least.holds)), (λ double. refl))
