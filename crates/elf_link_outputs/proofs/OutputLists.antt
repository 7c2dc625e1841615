-- Outputs of a link: they open in order, each section has one, and there is one list of them.
use Rattle.std.proofs.Common.{◌≡◌, ℕ, ◌<◌, List, [], ◌∷◌, ◌++◌, get_or, length, map, zero, suc, sym, ◌∙◌, ap, subst, arith, length-append}
use Rattle.std.proofs.Common.{◌⊎◌, Bool, true, false, inl, inr, refl, ap₂}
use Rattle.std.specs.Global.{Vec}
use Rattle.std.proofs.lemmas.List.{get_or-map, length-map}
use Rattle.std.proofs.Math.ListN.{get_or-append}
use Rattle.std.proofs.lemmas.Bool.{cases_eq, cases_lt}
use Rattle.elf_link_files.proofs.Public.{position_before, same_bool, same_name, once_of, one_site_list, one_each}
use Rattle.elf_link_files.specs.Rows.{AreIn, site_at, IsSiteIn, Pairs, Lists, AreOnce, Before}
use Rattle.elf_link_files.specs.declared.site.Site.{Site}
use Rattle.elf_link_outputs.specs.Outputs.{flat, HaveOneKey, IsOpener, is_no_bits, live, members, openers, output_flags, section_at_site}
use Rattle.elf_link_outputs.specs.Outputs.{AreOpeners, AreOutputMembers, AreOutputs}
use Rattle.elf_link_outputs.specs.Placed.{AreAllIn, AreLive, AreSome}
use Rattle.elf_object_type.specs.Object.{ObjectValue}

-- Small facts on the lists that a plan is made of, by induction on the lists. What holds of each item of the lists holds of the lists
-- joined. What holds of each two items, of one list or of two, does too. A site in one of the lists is in the joined one.

pub item_in : (fs : List ObjectValue) (outputs : List (Vec Site)) (i : ℕ) (v : Vec Site) → AreAllIn fs (map (λ ms. ms.items) outputs) →
    i < length outputs →
    v ≡ get_or outputs i v → AreIn fs v.items
item_in fs outputs i v all lt at =
    let items : Vec Site → List Site = λ ms. ms.items in
    let many = length-map outputs items in
    subst (AreIn fs) (get_or-map items outputs i v [] lt ∙ ap items (sym at)) (all i (omega arith))

-- ---- lists of sites

pub all_append : (P : Site → Type 0) (xs ys : List Site) → ((k : ℕ) → k < length xs → P (site_at xs k)) →
    ((k : ℕ) → k < length ys → P (site_at ys k)) →
    (k : ℕ) → k < length (xs ++ ys) → P (site_at (xs ++ ys) k)
all_append P [] ys front back k lt = back k lt
all_append P (x ∷ xs) ys front back zero lt = front 0 (omega arith)
all_append P (x ∷ xs) ys front back (suc k) lt = all_append P xs ys (λ j below. front (suc j) (omega arith)) back k (omega arith)

pub all_flat : (P : Site → Type 0) (oss : List (List Site)) →
    ((i : ℕ) → i < length oss → (k : ℕ) → k < length (get_or oss i []) → P (site_at (get_or oss i []) k)) →
    (k : ℕ) → k < length (flat oss) → P (site_at (flat oss) k)
all_flat P [] each k lt = absurd (omega arith)
all_flat P (o ∷ oss) each k lt =
    all_append P o (flat oss) (each 0 (omega arith)) (all_flat P oss (λ i below. each (suc i) (omega arith))) k lt

pub pairs_append : (R : Site → Site → Type 0) (xs ys : List Site) → Pairs R xs → Pairs R ys →
    ((j k : ℕ) → j < length xs → k < length ys → R (site_at xs j) (site_at ys k)) → Pairs R (xs ++ ys)
pairs_append R [] ys front back across j k lt within = back j k lt within
pairs_append R (x ∷ xs) ys front back across j zero lt within = absurd (omega arith)
pairs_append R (x ∷ xs) ys front back across zero (suc k) lt within =
    all_append (R x) xs ys (λ i below. front 0 (suc i) (omega arith) (omega arith)) (λ i below. across 0 i (omega arith) below) k
    (omega arith)
pairs_append R (x ∷ xs) ys front back across (suc j) (suc k) lt within =
    pairs_append R xs ys (λ i l less below. front (suc i) (suc l) (omega arith) (omega arith)) back
    (λ i l below other. across (suc i) l (omega arith) other) j k (omega arith) (omega arith)

pub pairs_flat : (R : Site → Site → Type 0) (oss : List (List Site)) → ((i : ℕ) → i < length oss → Pairs R (get_or oss i [])) →
    ((i j : ℕ) → i < j → j < length oss → (k l : ℕ) → k < length (get_or oss i []) → l < length (get_or oss j []) →
    R (site_at (get_or oss i []) k) (site_at (get_or oss j []) l)) →
    Pairs R (flat oss)
pairs_flat R [] each across = λ j k lt within. absurd (omega arith)
pairs_flat R (o ∷ oss) each across =
    pairs_append R o (flat oss) (each 0 (omega arith))
    (pairs_flat R oss (λ i below. each (suc i) (omega arith)) (λ i j lt below. across (suc i) (suc j) (omega arith) (omega arith)))
    (λ k l k_in l_in. all_flat (R (site_at o k)) oss (λ i below m m_in. across 0 (suc i) (omega arith) (omega arith) k m k_in m_in) l l_in)

pub in_left : (xs ys : List Site) (p : Site) → IsSiteIn xs p → IsSiteIn (xs ++ ys) p
in_left xs ys p (k, lt, at) = (k, simp length-append (omega arith), get_or-append xs ys _ k lt ∙ at)

pub in_right : (xs ys : List Site) (p : Site) → IsSiteIn ys p → IsSiteIn (xs ++ ys) p
in_right [] ys p there = there
in_right (x ∷ xs) ys p there = let (k, lt, at) = in_right xs ys p there in (suc k, omega arith, at)

pub in_flat : (oss : List (List Site)) (i : ℕ) (p : Site) → i < length oss → IsSiteIn (get_or oss i []) p → IsSiteIn (flat oss) p
in_flat [] i p lt there = absurd (omega arith)
in_flat (o ∷ oss) zero p lt there = in_left o (flat oss) p there
in_flat (o ∷ oss) (suc i) p lt there = in_right o (flat oss) p (in_flat oss i p (omega arith) there)

-- The outputs of a plan have each live section once (`outputs_live`), and no output is empty (`outputs_some`). By induction each live
-- section has an opener with its key, and two openers have two keys, so it is in exactly one output.

-- ---- keys

one_key : (fs : List ObjectValue) (p q : Site) → HaveOneKey fs p q ⊎ (HaveOneKey fs p q → ⊥)
one_key fs p q = elim (same_name (section_at_site fs p).name (section_at_site fs q).name) [
  | inr other ↦ inr (λ key. other key.0)
  | inl name ↦ elim (cases_eq (output_flags (section_at_site fs p).flags) (output_flags (section_at_site fs q).flags)) [
    | inr other ↦ inr (λ key. other key.1)
    | inl flags ↦ elim (same_bool (is_no_bits (section_at_site fs p).body) (is_no_bits (section_at_site fs q).body)) [
      | inr other ↦ inr (λ key. other key.2)
      | inl kind ↦ inl (name, flags, kind)
    ]
  ]
]

pub key_swap : (fs : List ObjectValue) (p q : Site) → HaveOneKey fs p q → HaveOneKey fs q p
key_swap fs p q (name, flags, kind) = (sym name, sym flags, sym kind)

pub key_join : (fs : List ObjectValue) (p q r : Site) → HaveOneKey fs p q → HaveOneKey fs q r → HaveOneKey fs p r
key_join fs p q r (name, flags, kind) (name_2, flags_2, kind_2) = (name ∙ name_2, flags ∙ flags_2, kind ∙ kind_2)

-- ---- each live section goes to an output

earlier_key : (fs : List ObjectValue) (ps : List Site) (k n : ℕ) →
    ((j : ℕ) × (j < n) × HaveOneKey fs (site_at ps j) (site_at ps k)) ⊎ ((j : ℕ) → j < n → HaveOneKey fs (site_at ps j) (site_at ps k) → ⊥)
earlier_key fs ps k zero = inr (λ j lt key. omega arith)
earlier_key fs ps k (suc n) = elim (earlier_key fs ps k n) [
  | inl (j, lt, key) ↦ inl (j, omega arith, key)
  | inr none ↦ elim (one_key fs (site_at ps n) (site_at ps k)) [
    | inl key ↦ inl (n, omega arith, key)
    | inr other ↦ inr (λ j lt key. elim (cases_lt j n) [
      | inl below ↦ none j below key
      | inr above ↦ (let same : j ≡ n = omega arith in other (subst (λ (m : ℕ). HaveOneKey fs (site_at ps m) (site_at ps k)) same key))
    ])
  ]
]

opener_of : (fs : List ObjectValue) (ps : List Site) → Lists (live fs) ps → (n k : ℕ) → k < n → k < length ps →
    (q : Site) × live fs q × IsOpener fs q × HaveOneKey fs (site_at ps k) q
opener_of fs ps is zero k lt within = absurd (omega arith)
opener_of fs ps is (suc n) k lt within = elim (earlier_key fs ps k k) [
  | inl (j, below, key) ↦ (
      let (q, there, opener, other) = opener_of fs ps is n j (omega arith) (omega arith) in
      (q, there, opener, key_join fs (site_at ps k) (site_at ps j) q (key_swap fs (site_at ps j) (site_at ps k) key) other))
  | inr none ↦ (
    site_at ps k,
    is.each k within,
    (λ q there before key. (
        let (m, m_in, at) = is.all q there in
        let first : m < k =
        position_before (live fs) ps m k is m_in within (subst (λ (p : Site). Before p (site_at ps k)) (sym at) before) in
        none m first (subst (λ (p : Site). HaveOneKey fs p (site_at ps k)) (sym at) key))),
    (refl, refl, refl),
  )
]

neither : (b : Bool) → (b ≡ true → ⊥) → (b ≡ false → ⊥) → ⊥
neither true a b = a refl
neither false a b = b refl

opener_in : (fs : List ObjectValue) (ps : List Site) (q : Site) → AreOpeners fs ps → live fs q → IsOpener fs q → IsSiteIn ps q
opener_in fs ps q (with, without, bits, rest, whole) there opener =
    subst (λ (xs : List Site). IsSiteIn xs q) (sym whole) (elim (same_bool (is_no_bits (section_at_site fs q).body) true) [
      | inl kind ↦ in_right with without q (rest.all q (there, (opener, kind)))
      | inr other ↦ in_left with without q (bits.all q (
        there,
        (
          opener,
          elim (same_bool (is_no_bits (section_at_site fs q).body) false) [
            | inl kind ↦ kind
            | inr never ↦ absurd (neither (is_no_bits (section_at_site fs q).body) other never)
          ],
        ),
      ))
    ])

pub all_placed : (fs : List ObjectValue) (ls ps : List Site) (oss : List (List Site)) → Lists (live fs) ls → AreOpeners fs ps →
    AreOutputMembers fs ps (length ps) oss →
    (p : Site) → live fs p → IsSiteIn (flat oss) p
all_placed fs ls ps oss is are mem p there =
    let (k, k_in, at) = is.all p there in
    let (q, q_there, opener, key) = opener_of fs ls is (suc k) k (omega arith) k_in in
    let (i, i_in, here) = opener_in fs ps q are q_there opener in
    let count = mem.count in
    in_flat oss i p (omega arith) ((mem.each i i_in).all p
    (there, subst (λ (r : Site). HaveOneKey fs p r) (sym here) (subst (λ (r : Site). HaveOneKey fs r q) at key)))

-- ---- and once

pub opener_live : (fs : List ObjectValue) (ps : List Site) → AreOpeners fs ps → (k : ℕ) → k < length ps → live fs (site_at ps k)
opener_live fs ps (with, without, bits, rest, whole) k lt =
    let at : k < length (with ++ without) = subst (λ (xs : List Site). k < length xs) whole lt in
    subst (λ (xs : List Site). live fs (site_at xs k)) (sym whole)
    (all_append (live fs) with without (λ j below. (bits.each j below).0) (λ j below. (rest.each j below).0) k at)

openers_apart : (fs : List ObjectValue) (without : Bool) (ps : List Site) → Lists (openers fs without) ps →
    Pairs (λ p q. HaveOneKey fs p q → ⊥) ps
openers_apart fs without ps is j k lt within key =
    (is.each k within).1.0 (site_at ps j) (is.each j (omega arith)).0 (is.order j k lt within) key

differ : false ≡ true → ⊥
differ e = cc

all_apart : (fs : List ObjectValue) (ps : List Site) → AreOpeners fs ps → Pairs (λ p q. HaveOneKey fs p q → ⊥) ps
all_apart fs ps (with, without, bits, rest, whole) =
    subst (Pairs (λ p q. HaveOneKey fs p q → ⊥)) (sym whole)
    (pairs_append (λ p q. HaveOneKey fs p q → ⊥) with without (openers_apart fs false with bits) (openers_apart fs true without rest)
    (λ j k j_in k_in key. differ (sym (bits.each j j_in).1.1 ∙ key.2 ∙ (rest.each k k_in).1.1)))

pub placed_once : (fs : List ObjectValue) (ps : List Site) (oss : List (List Site)) → AreOpeners fs ps →
    AreOutputMembers fs ps (length ps) oss → AreOnce (flat oss)
placed_once fs ps oss are mem =
    let count = mem.count in
    pairs_flat (λ p q. p ≡ q → ⊥) oss (λ i lt. once_of (members fs (site_at ps i)) (get_or oss i []) (mem.each i (omega arith)))
    (λ i j lt within k l k_in l_in same. (
    let one = ((mem.each i (omega arith)).each k k_in).1 in
    let other = ((mem.each j (omega arith)).each l l_in).1 in
    all_apart fs ps are i j lt (omega arith)
    (key_join fs (site_at ps i) (site_at (get_or oss i []) k) (site_at ps j) (key_swap fs (site_at (get_or oss i []) k) (site_at ps i) one)
    (subst (λ (p : Site). HaveOneKey fs p (site_at ps j)) (sym same) other))))

pub members_live : (fs : List ObjectValue) (ps : List Site) (oss : List (List Site)) (i : ℕ) → AreOutputMembers fs ps (length ps) oss →
    i < length oss →
    (k : ℕ) → k < length (get_or oss i []) → live fs (site_at (get_or oss i []) k)
members_live fs ps oss i mem lt k within = (let count = mem.count in ((mem.each i (omega arith)).each k within).0)

pub members_in : (fs : List ObjectValue) (ps : List Site) (oss : List (List Site)) → AreOutputMembers fs ps (length ps) oss →
    AreAllIn fs oss
members_in fs ps oss mem i lt k within = (let here = members_live fs ps oss i mem lt k within in (here.0, here.1))

pub outputs_live : (fs : List ObjectValue) (ls ps : List Site) (oss : List (List Site)) → Lists (live fs) ls → AreOpeners fs ps →
    AreOutputMembers fs ps (length ps) oss →
    AreLive fs (flat oss)
outputs_live fs ls ps oss is are mem = record {
  once = placed_once fs ps oss are mem;
  each = all_flat (live fs) oss (λ i lt. members_live fs ps oss i mem lt);
  all = all_placed fs ls ps oss is are mem;
}

pub outputs_some : (fs : List ObjectValue) (ps : List Site) (oss : List (List Site)) → AreOpeners fs ps →
    AreOutputMembers fs ps (length ps) oss → AreSome oss
outputs_some fs ps oss are mem i lt =
    let count = mem.count in
    let (k, k_in, at) = (mem.each i (omega arith)).all (site_at ps i) (opener_live fs ps are i (omega arith), (refl, refl, refl)) in
    omega arith

-- Objects have at most one list of outputs.

one_openers : (fs : List ObjectValue) (ps qs : List Site) → AreOpeners fs ps → AreOpeners fs qs → ps ≡ qs
one_openers fs ps qs (with, without, bits, rest, whole) (others, besides, bits_2, rest_2, whole_2) =
    whole ∙ ap₂ (λ (xs ys : List Site). xs ++ ys) (one_site_list (openers fs false) with others bits bits_2)
    (one_site_list (openers fs true) without besides rest rest_2)
    ∙ sym whole_2

pub one_outputs : (fs : List ObjectValue) (oss rss : List (List Site)) → AreOutputs fs oss → AreOutputs fs rss → oss ≡ rss
one_outputs fs oss rss (ps, openers, one) (qs, heads, other) =
    let same = one_openers fs qs ps heads openers in
    one_each [] (λ k. Lists (members fs (site_at ps k))) (length ps) oss rss
    (λ k xs ys lt. one_site_list (members fs (site_at ps k)) xs ys) one
    (subst (λ (rs : List Site). AreOutputMembers fs rs (length rs) rss) same other)
