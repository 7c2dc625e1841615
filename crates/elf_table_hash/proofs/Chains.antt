-- Chains of a hash table: how deep they are, and when the rules of chains hold.
use Rattle.std.proofs.Common.{◌≡◌, ◌≢◌, ℕ, ◌+◌, ◌<◌, ◌≤◌, ◌⊎◌, Bool, true, false, eqb, List, [], ◌∷◌, ◌++◌, length, inl, inr, refl, sym, ap}
use Rattle.std.proofs.Common.{subst, ◌∙◌, arith, length-append, get_or, set, append_assoc, get_or-set_other, get_or-set_same, zero, suc}
use Rattle.std.specs.Prelude.{◌||◌}
use Rattle.std.specs.List.{AllByRecursion, IsDistinct, list_any}
use Rattle.std.proofs.lemmas.Bool.{eqb-true, false_from_ne_true, false≢true, cases_eq, cases_lt}
use Rattle.std.proofs.lemmas.Map.Keys.{IsDistinct-cons}
use Rattle.std.proofs.lemmas.Map.Steps.{length-le_from_distinct_below}
use Rattle.std.proofs.lemmas.List.{length-set}
use Rattle.elf_table_hash.specs.ChainDepths.{AreDepths, AreJumps, AreStarts, IsDepthKnown, IsAmongSymbols, Leads}
use Rattle.elf_table_hash.specs.HashTable.{Ends, IsChain, IsOn, IsPath}

-- From a word there is at most one chain, by induction on it (`one_chain`). So no symbol is on a chain twice, and a path that comes back to
-- its start has no end. If all chain words are below m, a chain that starts below m has fewer than m symbols (`chain_short`); the rest is
-- on joined paths.

-- there is one chain from a word on
pub one_chain : (next : ℕ → ℕ) (start : ℕ) (xs ys : List ℕ) → IsChain next start xs → IsChain next start ys → xs ≡ ys
one_chain next start [] [] p q = refl
one_chain next start [] (y ∷ ys) p q = absurd (q.0 p)
one_chain next start (x ∷ xs) [] p q = absurd (p.0 q)
one_chain next start (x ∷ xs) (y ∷ ys) p q =
    let same : y ≡ x = q.1 ∙ sym p.1 in
    let tail = subst (λ w. IsPath next (next w) ys 0) same q.2 in
    ap (λ w. w ∷ xs) (sym same) ∙ ap (λ ws. y ∷ ws) (one_chain next (next x) xs ys p.2 tail)

-- paths join
pub path_append : (next : ℕ → ℕ) (a b c : ℕ) (xs ys : List ℕ) → IsPath next a xs b → IsPath next b ys c → IsPath next a (xs ++ ys) c
path_append next a b c [] ys p q = subst (λ w. IsPath next w ys c) (sym p) q
path_append next a b c (x ∷ xs) ys p q = (p.0, p.1, path_append next (next x) b c xs ys p.2 q)

-- and one more symbol
pub path_push : (next : ℕ → ℕ) (a b : ℕ) (xs : List ℕ) → IsPath next a xs b → b ≢ 0 → IsPath next a (xs ++ b ∷ []) (next b)
path_push next a b xs p some = path_append next a b (next b) xs (b ∷ []) p (some, refl, refl)

-- a path in two parts
pub path_split : (next : ℕ → ℕ) (a c : ℕ) (xs ys : List ℕ) → IsPath next a (xs ++ ys) c → (b : ℕ) × IsPath next a xs b × IsPath next b ys c
path_split next a c [] ys p = (a, refl, p)
path_split next a c (x ∷ xs) ys p =
    let (b, front, back) = path_split next (next x) c xs ys p.2 in
    (b, (p.0, p.1, front), back)

-- what leads to a symbol of it, and goes on from there
pub path_at : (next : ℕ → ℕ) (a c y : ℕ) (xs ys : List ℕ) → IsPath next a (xs ++ y ∷ ys) c →
    (y ≢ 0) × IsPath next a xs y × IsPath next (next y) ys c
path_at next a c y xs ys p =
    let (b, front, back) = path_split next a c xs (y ∷ ys) p in
    ((λ none. back.0 (sym back.1 ∙ none)), subst (λ w. IsPath next a xs w) (sym back.1) front, back.2)

-- the last symbol of a path leads to its end
pub path_last : (next : ℕ → ℕ) (a c y : ℕ) (xs : List ℕ) → IsPath next a (xs ++ y ∷ []) c → (y ≢ 0) × IsPath next a xs y × (next y ≡ c)
path_last next a c y xs p = path_at next a c y xs [] p

-- ---- on a chain

-- a symbol that the chain leads to is on it
pub on_from_path : (next : ℕ → ℕ) (start s : ℕ) (xs : List ℕ) → IsPath next start xs s → s ≢ 0 → Ends next s → IsOn next start s
on_from_path next start s xs p some (ys, chain) =
    on_chain ys chain where
      on_chain : (ys : List ℕ) → IsChain next s ys → IsOn next start s
      on_chain [] chain = absurd (some chain)
      on_chain (y ∷ ys) chain =
          (xs, ys, path_append next start s 0 xs (s ∷ ys) p (some, refl, subst (λ w. IsPath next (next w) ys 0) chain.1 chain.2))

-- a symbol on a chain is none, and its own chain is the rest
pub chain_of_on : (next : ℕ → ℕ) (start s : ℕ) (before after : List ℕ) → IsChain next start (before ++ s ∷ after) →
    IsChain next s (s ∷ after)
chain_of_on next start s before after chain =
    let (some, front, back) = path_at next start 0 s before after chain in
    (some, refl, back)

-- ---- a circle

-- a symbol that leads to itself over others has no chain
pub no_circle : (next : ℕ → ℕ) (x y : ℕ) (ys : List ℕ) → IsPath next x (y ∷ ys) x → Ends next x → ⊥
no_circle next x y ys p (zs, chain) =
    let twice = path_append next x x 0 (y ∷ ys) zs p chain in
    let same = ap (λ (ws : List ℕ). length ws) (one_chain next x zs (y ∷ (ys ++ zs)) chain twice) in
    let sum = length-append ys zs in
    omega arith

-- what leads into a circle has none either
pub endless : (next : ℕ → ℕ) (start x : ℕ) (xs zs : List ℕ) → IsPath next start xs x → IsChain next start zs → Ends next x
endless next start x [] zs p chain = (zs, subst (λ w. IsPath next w zs 0) p chain)
endless next start x (y ∷ ys) [] p chain = absurd (p.0 chain)
endless next start x (y ∷ ys) (z ∷ zs) p chain =
    endless next (next y) x ys zs p.2 (subst (λ w. IsPath next (next w) zs 0) (chain.1 ∙ sym p.1) chain.2)

-- ---- how long a chain is

or_cases : (b c : Bool) → (b || c) ≡ true → (b ≡ true) ⊎ (c ≡ true)
or_cases true c either = inl refl
or_cases false c either = inr either

-- all symbols of a path are below a bound that its start and all chain words are below
pub path_below : (next : ℕ → ℕ) (m a c q : ℕ) (xs : List ℕ) → ((s : ℕ) → s < m → next s < m) → a < m → IsPath next a xs c →
    list_any (eqb q) xs ≡ true → q < m
path_below next m a c q [] below within p member = absurd (false≢true member)
path_below next m a c q (x ∷ xs) below within p member =
    let here : x < m = subst (λ w. w < m) (sym p.1) within in
    elim (or_cases (eqb q x) (list_any (eqb q) xs) member) [
      | inl same ↦ subst (λ w. w < m) (sym (eqb-true q x same)) here
      | inr later ↦ path_below next m (next x) c q xs below (below x here) p.2 later
    ]

-- and so is its end
pub end_below : (next : ℕ → ℕ) (m a c : ℕ) (xs : List ℕ) → ((s : ℕ) → s < m → next s < m) → a < m → IsPath next a xs c → c < m
end_below next m a c [] below within p = subst (λ w. w < m) p within
end_below next m a c (x ∷ xs) below within p = end_below next m (next x) c xs below (below x (subst (λ w. w < m) (sym p.1) within)) p.2

-- no symbol of a chain is 0
some_symbols : (next : ℕ → ℕ) (a c : ℕ) (xs : List ℕ) → IsPath next a xs c → AllByRecursion (λ y. eqb 0 y ≡ false) xs
some_symbols next a c [] p = tt
some_symbols next a c (x ∷ xs) p =
    (false_from_ne_true _ (λ test. p.0 (sym p.1 ∙ sym (eqb-true 0 x test))), some_symbols next (next x) c xs p.2)

-- nor one whose own chain is longer
shorter : (next : ℕ → ℕ) (a x : ℕ) (xs zs : List ℕ) → IsChain next a xs → length xs < length zs → IsChain next x zs →
    AllByRecursion (λ y. eqb x y ≡ false) xs
shorter next a x [] zs p less chain = tt
shorter next a x (y ∷ ys) zs p less chain = (
  false_from_ne_true _ (λ test. (
      let same : x ≡ a = eqb-true x y test ∙ p.1 in
      let twice = one_chain next a (y ∷ ys) zs p (subst (λ w. IsPath next w zs 0) same chain) in
      let long = ap (λ (ws : List ℕ). length ws) twice in
      absurd (omega arith))),
  shorter next (next y) x ys zs p.2 (omega arith) chain,
)

distinct : (next : ℕ → ℕ) (a : ℕ) (xs : List ℕ) → IsChain next a xs → IsDistinct eqb xs
unfolding IsDistinct
distinct next a [] p = tt
distinct next a (x ∷ xs) p =
    let whole : IsChain next x (x ∷ xs) = ((λ none. p.0 (sym p.1 ∙ none)), refl, p.2) in
    IsDistinct-cons eqb x xs (shorter next (next x) x xs (x ∷ xs) p.2 (omega arith) whole) (distinct next (next x) xs p.2)

-- a chain of symbols below m has fewer than m of them
pub chain_short : (next : ℕ → ℕ) (m a : ℕ) (xs : List ℕ) → ((s : ℕ) → s < m → next s < m) → a < m → IsChain next a xs → length xs < m
chain_short next m a xs below within chain =
    let apart = IsDistinct-cons eqb 0 xs (some_symbols next a 0 xs chain) (distinct next a xs chain) in
    let inside : (q : ℕ) → list_any (eqb q) (0 ∷ xs) ≡ true → q < m =
    λ q member. elim (or_cases (eqb q 0) (list_any (eqb q) xs) member) [
      | inl same ↦ (let none : q ≡ 0 = eqb-true q 0 same in omega arith)
      | inr later ↦ path_below next m a 0 q xs below within chain later
    ] in
    let le : length (0 ∷ xs) ≤ m = length-le_from_distinct_below (0 ∷ xs) m apart inside in
    omega arith

-- Depths, jumps and starts stay right with one more symbol, whose depth is one more than its chain word's. If a known chain
-- leads to `t`, a symbol on it that is no deeper than `t` is on the chain of `t` (`on_after`). One as deep as the start is the start
-- (`on_same`).

-- 0 has no chain
pub zero_depth : (next : ℕ → ℕ) (m : ℕ) (depth : List ℕ) → AreDepths next m depth → get_or depth 0 0 ≡ 0
zero_depth next m depth are =
    elim (cases_lt 0 (get_or depth 0 0)) [
      | inl some ↦ (let (xs, chain, long) = are.right 0 some in absurd (none xs chain long some))
      | inr le ↦ (let h = le in omega arith)
    ] where
      none : (xs : List ℕ) → IsChain next 0 xs → length xs ≡ get_or depth 0 0 → 0 < get_or depth 0 0 → ⊥
      none [] chain long some = omega arith
      none (x ∷ xs) chain long some = chain.0 refl

-- the chain of a symbol whose depth is known
pub known_chain : (next : ℕ → ℕ) (m : ℕ) (depth : List ℕ) (s : ℕ) → AreDepths next m depth → IsDepthKnown depth s →
    (xs : List ℕ) × IsChain next s xs × (length xs ≡ get_or depth s 0)
known_chain next m depth s are (inl none) = ([], none, sym (ap (λ k. get_or depth k 0) none ∙ zero_depth next m depth are))
known_chain next m depth s are (inr some) = are.right s some

pub known_ends : (next : ℕ → ℕ) (m : ℕ) (depth : List ℕ) (s : ℕ) → AreDepths next m depth → IsDepthKnown depth s → Ends next s
known_ends next m depth s are known =
    let (xs, chain, long) = known_chain next m depth s are known in
    (xs, chain)

-- what a known chain leads to is known
pub known_along : (next : ℕ → ℕ) (m : ℕ) (depth : List ℕ) (s t : ℕ) (xs : List ℕ) → AreDepths next m depth → IsDepthKnown depth s →
    IsPath next s xs t → IsDepthKnown depth t
known_along next m depth s t [] are known path = subst (IsDepthKnown depth) path known
known_along next m depth s t (x ∷ xs) are (inl none) path = absurd (path.0 none)
known_along next m depth s t (x ∷ xs) are (inr some) path =
    known_along next m depth (next x) t xs are (subst (λ k. IsDepthKnown depth (next k)) (sym path.1) (are.closed s some)) path.2

-- a symbol's chain is one longer than that of its chain word
pub next_depth : (next : ℕ → ℕ) (m : ℕ) (depth : List ℕ) (s : ℕ) → AreDepths next m depth → 0 < get_or depth s 0 →
    get_or depth (next s) 0 + 1 ≡ get_or depth s 0
next_depth next m depth s are some =
    let (xs, chain, long) = are.right s some in
    let (ys, rest, count) = known_chain next m depth (next s) are (are.closed s some) in
    step xs chain long ys rest count where
      step : (xs : List ℕ) → IsChain next s xs → length xs ≡ get_or depth s 0 → (ys : List ℕ) → IsChain next (next s) ys →
          length ys ≡ get_or depth (next s) 0 →
          get_or depth (next s) 0 + 1 ≡ get_or depth s 0
      step [] chain long ys rest count = absurd (omega arith)
      step (x ∷ xs) chain long ys rest count =
          let tail = subst (λ k. IsChain next (next k) xs) chain.1 chain.2 in
          let same = ap (λ (ws : List ℕ). length ws) (one_chain next (next s) xs ys tail rest) in
          omega arith

-- a known chain is shorter than the number of symbols
pub depth_short : (next : ℕ → ℕ) (m : ℕ) (depth : List ℕ) (s : ℕ) → ((k : ℕ) → k < m → next k < m) → AreDepths next m depth →
    IsDepthKnown depth s → s < m → get_or depth s 0 < m
depth_short next m depth s below are known within =
    let (xs, chain, long) = known_chain next m depth s are known in
    let short = chain_short next m s xs below within chain in
    omega arith

-- ---- a symbol on a known chain

-- the depths of a chain's start, and of a symbol on it
pub record OnDepths (depth : List ℕ) (start s : ℕ) (before after : List ℕ) : Type 0 where
  pub above : get_or depth start 0 ≡ length before + 1 + length after
  pub here : get_or depth s 0 ≡ 1 + length after

pub on_depths : (next : ℕ → ℕ) (m : ℕ) (depth : List ℕ) (start s : ℕ) (before after : List ℕ) → AreDepths next m depth →
    IsDepthKnown depth start →
    IsChain next start (before ++ s ∷ after) → OnDepths depth start s before after
on_depths next m depth start s before after are known chain =
    let (some, front, back) = path_at next start 0 s before after chain in
    let (xs, whole, long) = known_chain next m depth start are known in
    let (ys, rest, count) = known_chain next m depth s are (known_along next m depth start s before are known front) in
    let same = ap (λ (ws : List ℕ). length ws) (one_chain next start xs (before ++ s ∷ after) whole chain) in
    let tail = ap (λ (ws : List ℕ). length ws) (one_chain next s ys (s ∷ after) rest (chain_of_on next start s before after chain)) in
    let sum = length-append before (s ∷ after) in
    record { above = omega arith; here = omega arith }

-- one whose chain is as long as the whole is its start
pub on_same : (next : ℕ → ℕ) (m : ℕ) (depth : List ℕ) (start s : ℕ) → AreDepths next m depth → IsDepthKnown depth start →
    IsOn next start s →
    get_or depth start 0 ≤ get_or depth s 0 → start ≡ s
on_same next m depth start s are known ([], after, chain) deep = sym chain.1
on_same next m depth start s are known (b ∷ before, after, chain) deep =
    let depths = on_depths next m depth start s (b ∷ before) after are known chain in
    absurd (omega arith)

-- it has a chain
pub on_some : (next : ℕ → ℕ) (m : ℕ) (depth : List ℕ) (start s : ℕ) → AreDepths next m depth → IsDepthKnown depth start →
    IsOn next start s → 0 < get_or depth s 0
on_some next m depth start s are known (before, after, chain) =
    let depths = on_depths next m depth start s before after are known chain in
    omega arith

-- two ends of one list: the shorter is an end of the longer
end_of_end : (bs xs js zs : List ℕ) → bs ++ xs ≡ js ++ zs → length xs ≤ length zs → (mid : List ℕ) × (zs ≡ mid ++ xs)
end_of_end bs xs [] zs same le = (bs, sym same)
end_of_end [] xs (j ∷ js) zs same le =
    let long = ap (λ (ws : List ℕ). length ws) same in
    let sum = length-append js zs in
    absurd (omega arith)
end_of_end (b ∷ bs) xs (j ∷ js) zs same le =
    let tails : bs ++ xs ≡ js ++ zs = cc in
    end_of_end bs xs js zs tails le

-- a symbol on a chain is after what the chain leads to, where its own chain is no longer than that one's
pub on_after : (next : ℕ → ℕ) (m : ℕ) (depth : List ℕ) (start t s : ℕ) → AreDepths next m depth → IsDepthKnown depth start →
    Leads next start t →
    get_or depth s 0 ≤ get_or depth t 0 → IsOn next start s → IsOn next t s
on_after next m depth start t s are known (js, path) deep (before, after, chain) =
    let depths = on_depths next m depth start s before after are known chain in
    let (zs, rest, long) = known_chain next m depth t are (known_along next m depth start t js are known path) in
    let same = one_chain next start (before ++ s ∷ after) (js ++ zs) chain (path_append next start t 0 js zs path rest) in
    let (mid, is) = end_of_end before (s ∷ after) js zs same (omega arith) in
    (mid, after, subst (λ ws. IsChain next t ws) is rest)

-- ---- one more symbol

-- its depth is one more than that of its chain word, and the others stay known
pub deep_more : (depth : List ℕ) (a d t : ℕ) → a < length depth → 0 < get_or depth t 0 → 0 < get_or (set depth a (d + 1)) t 0
deep_more depth a d t within some =
    elim (cases_eq t a) [
      | inl same ↦ rw same (rw get_or-set_same (omega arith))
      | inr other ↦ rw get_or-set_other some
    ]

pub known_more : (depth : List ℕ) (a d t : ℕ) → a < length depth → IsDepthKnown depth t → IsDepthKnown (set depth a (d + 1)) t
known_more depth a d t within (inl none) = inl none
known_more depth a d t within (inr some) = inr (deep_more depth a d t within some)

pub depths_more : (next : ℕ → ℕ) (m : ℕ) (depth : List ℕ) (a s : ℕ) → AreDepths next m depth → IsDepthKnown depth s → next a ≡ s → a ≢ 0 →
    a < m →
    AreDepths next m (set depth a (get_or depth s 0 + 1))
depths_more next m depth a s are known leads some within = let inside : a < length depth = (let long = are.long in omega arith) in record {
  long = length-set depth a (get_or depth s 0 + 1) ∙ are.long;
  right = λ t deep. elim (cases_eq t a) [
    | inl same ↦ rw same (rw get_or-set_same (
        let (xs, chain, long) = known_chain next m depth s are known in
        (a ∷ xs, (some, refl, subst (λ k. IsChain next k xs) (sym leads) chain), (omega arith))))
    | inr other ↦ (let old = rw get_or-set_other at deep in rw get_or-set_other (are.right t old))
  ];
  closed = λ t deep. elim (cases_eq t a) [
    | inl same ↦ known_more depth a (get_or depth s 0) (next t) inside (subst (IsDepthKnown depth) (sym (ap next same ∙ leads)) known)
    | inr other ↦ (let old = rw get_or-set_other at deep in known_more depth a (get_or depth s 0) (next t) inside (are.closed t old))
  ];
}

-- and its jump leads where one of its chain word leads
pub jumps_more : (next : ℕ → ℕ) (m : ℕ) (jump : List ℕ) (a s far : ℕ) → AreJumps next m jump → Leads next s far → far < m → next a ≡ s →
    a ≢ 0 → a < m →
    AreJumps next m (set jump a far)
jumps_more next m jump a s far are (xs, path) below leads some within = let inside : a < length jump =
    (let long = are.long in omega arith) in record {
      long = length-set jump a far ∙ are.long;
      inside = λ t lt. elim (cases_eq t a) [
        | inl same ↦ rw same (rw get_or-set_same below)
        | inr other ↦ rw get_or-set_other (are.inside t lt)
      ];
      right = λ t lt. elim (cases_eq t a) [
        | inl same ↦ rw same (rw get_or-set_same (a ∷ xs, (some, refl, subst (λ k. IsPath next k xs far) (sym leads) path)))
        | inr other ↦ rw get_or-set_other (are.right t lt)
      ];
    }

-- and it is met from where its path begins
pub starts_more : (next : ℕ → ℕ) (m : ℕ) (depth starts : List ℕ) (a d start : ℕ) → AreStarts next m depth starts → Leads next start a →
    a < m → AreStarts next m (set depth a (d + 1)) (set starts a start)
starts_more next m depth starts a d start are leads within =
    let inside : a < length starts = (let long = are.long in omega arith) in
    record {
      long = length-set starts a start ∙ are.long;
      right = λ t deep. elim (cases_eq t a) [
        | inl same ↦ rw same (rw get_or-set_same leads)
        | inr other ↦ (let old = rw get_or-set_other at deep in rw get_or-set_other (are.right t old))
      ];
    }

pub leads_join : (next : ℕ → ℕ) (a b c : ℕ) → Leads next a b → Leads next b c → Leads next a c
leads_join next a b c (xs, front) (ys, back) = (xs ++ ys, path_append next a b c xs ys front back)

pub known_kept : (old depth : List ℕ) (s : ℕ) → ((s : ℕ) → 0 < get_or old s 0 → 0 < get_or depth s 0) → IsDepthKnown old s →
    IsDepthKnown depth s
known_kept old depth s kept (inl none) = inl none
known_kept old depth s kept (inr deep) = inr (kept s deep)

-- Whether a chain ends is decided by following it, if all chain words are below the number of symbols. A chain that goes on after that many
-- steps never ends, because one that ends is shorter. Whether a symbol is on a chain that ends is decided by a search of its symbols.

-- after n steps down a chain it has ended, or goes on
walk : (next : ℕ → ℕ) (n s : ℕ) → Ends next s ⊎ ((symbols : List ℕ) × (t : ℕ) × IsPath next s symbols t × (length symbols ≡ n))
walk next zero s = inr ([], s, refl, refl)
walk next (suc n) s =
    elim (cases_eq s 0) [
      | inl none ↦ inl ([], none)
      | inr some ↦ elim (walk next n (next s)) [
        | inl (xs, chain) ↦ inl (s ∷ xs, (some, refl, chain))
        | inr (xs, t, path, long) ↦ inr (s ∷ xs, t, (some, refl, path), (omega arith))
      ]
    ]

-- one that goes on after as many steps as there are symbols does not end
pub long_endless : (next : ℕ → ℕ) (m s t : ℕ) (xs : List ℕ) → ((k : ℕ) → k < m → next k < m) → s < m → IsPath next s xs t → m ≤ length xs →
    ¬ Ends next s
long_endless next m s t xs below within path long ends =
    let (ys, rest) = endless next s t xs ends.0 path ends.1 in
    let short = chain_short next m s (xs ++ ys) below within (path_append next s t 0 xs ys path rest) in
    let sum = length-append xs ys in
    omega arith

-- so it can be decided
pub ends_or_not : (next : ℕ → ℕ) (m s : ℕ) → ((k : ℕ) → k < m → next k < m) → s < m → Ends next s ⊎ (Ends next s → ⊥)
ends_or_not next m s below within =
    elim (walk next m s) [
      | inl ends ↦ inl ends
      | inr (xs, t, path, long) ↦ inr (long_endless next m s t xs below within path (omega arith))
    ]

in_or_not : (xs : List ℕ) (s : ℕ) → IsAmongSymbols xs s ⊎ (IsAmongSymbols xs s → ⊥)
in_or_not [] s = inr (λ member. none member.0 member.1 member.2) where
  none : (before after : List ℕ) → [] ≡ before ++ s ∷ after → ⊥
  none [] after same = cc
  none (b ∷ before) after same = cc
in_or_not (x ∷ xs) s =
    elim (cases_eq x s) [
      | inl same ↦ inl ([], xs, ap (λ k. k ∷ xs) same)
      | inr other ↦ elim (in_or_not xs s) [
        | inl (before, after, is) ↦ inl (x ∷ before, after, ap (λ ws. x ∷ ws) is)
        | inr out ↦ inr (λ member. later x xs s other out member.0 member.1 member.2)
      ]
    ] where
      later : (x : ℕ) (xs : List ℕ) (s : ℕ) → (x ≡ s → ⊥) → (IsAmongSymbols xs s → ⊥) → (before after : List ℕ) →
          x ∷ xs ≡ before ++ s ∷ after → ⊥
      later x xs s other out [] after same = other (let head : x ≡ s = cc in head)
      later x xs s other out (b ∷ before) after same = out (before, after, (let tails : xs ≡ before ++ s ∷ after = cc in tails))

pub on_or_not : (next : ℕ → ℕ) (start s : ℕ) → Ends next start → IsOn next start s ⊎ (IsOn next start s → ⊥)
on_or_not next start s (xs, chain) =
    elim (in_or_not xs s) [
      | inl (before, after, is) ↦ inl (before, after, subst (λ ws. IsChain next start ws) is chain)
      | inr out ↦ inr (λ on. out (on.0, on.1, one_chain next start xs (on.0 ++ s ∷ on.1) chain on.2))
    ]
