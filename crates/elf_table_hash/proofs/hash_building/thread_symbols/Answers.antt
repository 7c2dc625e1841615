-- A table of zeros has no symbol threaded (`none_threaded`). Each step puts the next lower symbol first on its bucket's chain (`are_put`,
-- `put_threaded`). When the loop ends, all symbols from 1 on are threaded, so the table is built for its names (`all_threaded`).
use Rattle.std.proofs.Common.{◌≡◌, ◌≢◌, ℕ, ◌+◌, ◌<◌, ◌≤◌, ◌⊎◌, zero, suc, List, [], ◌∷◌, inl, inr, refl, sym, ap, subst, ◌∙◌, arith, ◌%◌}
use Rattle.std.proofs.Common.{length, get_or, set, get_or-set_other, get_or-set_same, ◌-◌, map, Bor}
use Rattle.std.proofs.lemmas.Bool.{cases_eq}
use Rattle.std.proofs.Math.Nat.{mod-lt}
use Rattle.std.proofs.lemmas.List.{length-set, get_or-map, length-map}
use Rattle.elf_table_hash.proofs.Chains.{on_from_path, path_at}
use Rattle.elf_table_hash.specs.ChainDepths.{Leads, AreThreaded, IsThreaded, home_of, threaded}
use Rattle.elf_table_hash.specs.HashTable.{Ends, IsOn, IsPath, hash_of, IsBuilt, MAX_HASH, bucket, chain, name_of, nbucket, nchain}
use Rattle.elf_table_hash.proofs.hash_building.thread_symbols.Goals as goal

-- Chains threaded through a table as it is built.

-- Chains as they are made, from the last symbol to the first. Each chain ascends, so putting a smaller symbol in front changes no path
-- above it, and every chain ends. Each symbol from 1 on is then on the chain of its bucket (`threaded_on`), and a chain has the symbols of
-- one bucket alone (`threaded_own`).

-- where chain words ascend, a path above a symbol does not see that symbol's chain word
path_kept : (next after : ℕ → ℕ) (m s start t : ℕ) (xs : List ℕ) → ((k : ℕ) → k < m → k ≢ s → after k ≡ next k) →
    ((k : ℕ) → k < m → (next k ≡ 0) ⊎ ((k < next k) × (next k < m))) → (start ≡ 0) ⊎ ((s < start) × (start < m)) → IsPath next start xs t →
    IsPath after start xs t
path_kept next after m s start t [] same ascending above path = path
path_kept next after m s start t (x ∷ xs) same ascending (inl none) path = absurd (path.0 none)
path_kept next after m s start t (x ∷ xs) same ascending (inr (lt, within)) path =
    let is = path.1 in
    let inside : x < m = omega arith in
    let other : x ≢ s = omega arith in
    let higher : (next x ≡ 0) ⊎ ((s < next x) × (next x < m)) =
    elim (ascending x inside) [ inl none ↦ inl none | inr up ↦ (let a = up.0 in inr ((omega arith), up.1)) ] in
    let tail = path_kept next after m s (next x) t xs same ascending higher path.2 in
    (path.0, path.1, subst (λ k. IsPath after k xs t) (sym (same x inside other)) tail)

-- one more symbol before the others on its bucket's chain
threaded_more : (next after head first home : ℕ → ℕ) (n m s : ℕ) → AreThreaded next head home n m (s + 1) → 0 < s → s < m →
    ((k : ℕ) → k < m → home k < n) → ((k : ℕ) → k < m → k ≢ s → after k ≡ next k) → after s ≡ head (home s) →
    ((b : ℕ) → b < n → b ≢ home s → first b ≡ head b) → first (home s) ≡ s → AreThreaded after first home n m s
threaded_more next after head first home n m s are some within homes same linked others here = record {
  heads = λ b lt. elim (cases_eq b (home s)) [
    | inl is ↦ (let e : first b ≡ s = ap first is ∙ here in inr ((omega arith), (omega arith)))
    | inr other ↦ (let e = others b lt other in elim (are.heads b lt) [
      | inl none ↦ inl (e ∙ none)
      | inr up ↦ (let low = up.0 in let high = up.1 in inr ((omega arith), (omega arith)))
    ])
  ];
  ascending = λ k lt. elim (cases_eq k s) [
    | inl is ↦ (let e : after k ≡ head (home s) = ap after is ∙ linked in elim (are.heads (home s) (homes s within)) [
      | inl none ↦ inl (e ∙ none)
      | inr up ↦ (let low = up.0 in let high = up.1 in inr ((omega arith), (omega arith)))
    ])
    | inr other ↦ (let e = same k lt other in elim (are.ascending k lt) [
      | inl none ↦ inl (e ∙ none)
      | inr up ↦ (let low = up.0 in let high = up.1 in inr ((omega arith), (omega arith)))
    ])
  ];
  unset = λ k lt. same k (omega arith) (omega arith) ∙ are.unset k (omega arith);
  own_heads = λ b lt more. elim (cases_eq b (home s)) [
    | inl is ↦ (let e : first b ≡ s = ap first is ∙ here in ap home e ∙ sym is)
    | inr other ↦ (let e = others b lt other in ap home e ∙ are.own_heads b lt (λ none. more (e ∙ none)))
  ];
  own_links = λ k lt more. elim (cases_eq k s) [
    | inl is ↦ (let e : after k ≡ head (home s) = ap after is ∙ linked in
        ap home e ∙ (are.own_heads (home s) (homes s within) (λ none. more (e ∙ none)) ∙ ap home (sym is)))
    | inr other ↦ (let e = same k lt other in ap home e ∙ are.own_links k lt (λ none. more (e ∙ none)))
  ];
  found = λ t le lt. elim (cases_eq t s) [
    | inl is ↦ (let e : first (home t) ≡ t = ap (λ k. first (home k)) is ∙ (here ∙ sym is) in ([], e))
    | inr other ↦ later t lt (omega arith)
  ];
} where
  kept : (b t : ℕ) → b < n → Leads next (head b) t → Leads after (head b) t
  kept b t lt (xs, path) = (
    xs,
    path_kept next after m s (head b) t xs same are.ascending
        (elim (are.heads b lt) [ inl none ↦ inl none | inr up ↦ (let low = up.0 in inr ((omega arith), up.1)) ]) path,
  )

  later : (t : ℕ) → t < m → s + 1 ≤ t → Leads after (first (home t)) t
  later t lt above =
      let old = kept (home t) t (homes t lt) (are.found t above lt) in
      elim (cases_eq (home t) (home s)) [
        | inl is ↦ (
            let e : first (home t) ≡ s = ap first is ∙ here in
            let joined : after s ≡ head (home t) = linked ∙ ap head (sym is) in
            (s ∷ old.0, ((λ none. (let z = none in omega arith)), sym e, subst (λ k. IsPath after k old.0 t) (sym joined) old.1)))
        | inr other ↦ subst (λ k. Leads after k t) (sym (others (home t) (homes t lt) other)) old
      ]

-- none at all
threaded_none : (next head home : ℕ → ℕ) (n m : ℕ) → ((s : ℕ) → next s ≡ 0) → ((b : ℕ) → head b ≡ 0) → AreThreaded next head home n m m
threaded_none next head home n m links heads = record {
  heads = λ b lt. inl (heads b);
  ascending = λ s lt. inl (links s);
  unset = λ s lt. links s;
  found = λ s le lt. absurd (omega arith);
  own_heads = λ b lt more. absurd (more (heads b));
  own_links = λ s lt more. absurd (more (links s));
}

-- chains that ascend end
ends_by : (next : ℕ → ℕ) (m n start : ℕ) → ((k : ℕ) → k < m → (next k ≡ 0) ⊎ ((k < next k) × (next k < m))) → m ≤ start + n → start < m →
    Ends next start
ends_by next m zero start ascending far within = absurd (omega arith)
ends_by next m (suc n) start ascending far within =
    elim (cases_eq start 0) [
      | inl none ↦ ([], none)
      | inr some ↦ elim (ascending start within) [
        | inl end ↦ (start ∷ [], (some, refl, end))
        | inr up ↦ (let low = up.0 in let (xs, chain) = ends_by next m n (next start) ascending (omega arith) up.1 in
            (start ∷ xs, (some, refl, chain)))
      ]
    ]

ascending_ends : (next : ℕ → ℕ) (m start : ℕ) → ((k : ℕ) → k < m → (next k ≡ 0) ⊎ ((k < next k) × (next k < m))) → start < m →
    Ends next start
ascending_ends next m start ascending within = ends_by next m m start ascending (omega arith) within

threaded_on : (next head home : ℕ → ℕ) (n m s : ℕ) → AreThreaded next head home n m 1 → 0 < s → s < m → IsOn next (head (home s)) s
threaded_on next head home n m s are some within =
    let leads = are.found s (omega arith) within in
    on_from_path next (head (home s)) s leads.0 leads.1 (omega arith) (ascending_ends next m s are.ascending within)

-- a chain whose first symbol is of a bucket has symbols of this bucket alone
home_along : (next home : ℕ → ℕ) (m b start s : ℕ) (xs : List ℕ) → ((k : ℕ) → k < m → next k ≢ 0 → home (next k) ≡ home k) →
    ((k : ℕ) → k < m → next k < m) → start < m → (start ≢ 0 → home start ≡ b) → IsPath next start xs s → s ≢ 0 → home s ≡ b
home_along next home m b start s [] links below within first path some = ap home (sym path) ∙ first (λ none. some (sym path ∙ none))
home_along next home m b start s (x ∷ xs) links below within first path some =
    let is = path.1 in
    let inside : x < m = omega arith in
    home_along next home m b (next x) s xs links below (below x inside)
    (λ more. links x inside more ∙ (ap home is ∙ first path.0)) path.2 some

threaded_own : (next head home : ℕ → ℕ) (n m b s : ℕ) → AreThreaded next head home n m 1 → 0 < m → b < n → IsOn next (head b) s → home s ≡ b
threaded_own next head home n m b s are more there (before, after, chain) =
    let at = path_at next (head b) 0 s before after chain in
    home_along next home m b (head b) s before are.own_links below first (are.own_heads b there) at.1 at.0 where
      below : (k : ℕ) → k < m → next k < m
      below k lt = elim (are.ascending k lt) [ inl none ↦ (let e = none in omega arith) | inr up ↦ up.1 ]

      first : head b < m
      first = elim (are.heads b there) [ inl none ↦ (let e = none in omega arith) | inr up ↦ up.1 ]

-- Putting a symbol first on its bucket's chain sets two words, and the other chain words and buckets stay (`are_put`). So the symbol and
-- the later ones are on their chains (`put_threaded`); a table of zeros has no chains. Once all symbols from 1 on are put, the table is
-- built for its names, if its counts are at most MAX_HASH.

-- a table whose words are 0 has no chains
none_threaded : (words : List ℕ) (names : List (List ℕ)) → ((k : ℕ) → 2 ≤ k → get_or words k 0 ≡ 0) → IsThreaded words names (nchain words)
unfolding bucket chain
none_threaded words names empty =
    threaded_none (chain words) (bucket words) (home_of words names) (nbucket words) (nchain words)
    (λ s. empty (2 + nbucket words + s) (omega arith)) (λ b. empty (2 + b) (omega arith))

at_other : (words : List ℕ) (i j v : ℕ) → j ≢ i → get_or (set words i v) j 0 ≡ get_or words j 0
at_other words i j v other = rw get_or-set_other refl

at_same : (words : List ℕ) (i v : ℕ) → i < length words → get_or (set words i v) i 0 ≡ v
at_same words i v within = rw get_or-set_same refl

-- the words once symbol s is put before the others on the chain of bucket b
record ArePut (words put : List ℕ) (s b : ℕ) : Type 0 where
  buckets : nbucket put ≡ nbucket words
  symbols : nchain put ≡ nchain words
  chains : (k : ℕ) → k < nchain words → k ≢ s → chain put k ≡ chain words k
  linked : chain put s ≡ bucket words b
  heads : (k : ℕ) → k < nbucket words → k ≢ b → bucket put k ≡ bucket words k
  here : bucket put b ≡ s

are_put : (words : List ℕ) (s b : ℕ) → length words ≡ 2 + nbucket words + nchain words → s < nchain words → b < nbucket words →
    ArePut words (threaded words s b) s b
unfolding bucket chain threaded
are_put words s b long within there =
    let h : ℕ = get_or words (2 + b) 0 in
    let at : ℕ = 2 + nbucket words + s in
    let u : List ℕ = set words at h in
    let w : List ℕ = set u (2 + b) s in
    let buckets : nbucket w ≡ nbucket words = at_other u (2 + b) 0 s (omega arith) ∙ at_other words at 0 h (omega arith) in
    record {
      buckets = buckets;
      symbols = at_other u (2 + b) 1 s (omega arith) ∙ at_other words at 1 h (omega arith);
      chains = λ k lt other. ap (λ n. get_or w (2 + n + k) 0) buckets
          ∙ at_other u (2 + b) (2 + nbucket words + k) s (omega arith)
          ∙ at_other words at (2 + nbucket words + k) h (omega arith);
      linked = ap (λ n. get_or w (2 + n + s) 0) buckets ∙ at_other u (2 + b) at s (omega arith) ∙ at_same words at h (omega arith);
      heads = λ k lt other. at_other u (2 + b) (2 + k) s (omega arith) ∙ at_other words at (2 + k) h (omega arith);
      here = at_same u (2 + b) s (let same = length-set words at h in omega arith);
    }

-- one more symbol is on its chain
put_threaded : (words put : List ℕ) (names : List (List ℕ)) (s : ℕ) → nbucket words ≢ 0 → 0 < s → s < nchain words →
    ArePut words put s (home_of words names s) → IsThreaded words names (s + 1) → IsThreaded put names s
put_threaded words put names s some above within are was =
    let more = threaded_more (chain words) (chain put) (bucket words) (bucket put) (home_of words names) (nbucket words)
    (nchain words) s was above within
    (λ k lt. home_there k) are.chains are.linked are.heads are.here in
    subst (λ m. AreThreaded (chain put) (bucket put) (home_of put names) (nbucket put) m s) (sym are.symbols)
    (subst (λ n. AreThreaded (chain put) (bucket put) (λ k. hash_of (name_of names k) % n) n (nchain words) s) (sym are.buckets) more) where
      home_there : (k : ℕ) → home_of words names k < nbucket words
      home_there k = let positive : 0 < nbucket words = omega arith in mod-lt (hash_of (name_of names k)) positive

-- once all are, the table is one for its names
all_threaded : (words : List ℕ) (names : List (List ℕ)) → nbucket words ≢ 0 → nchain words ≡ length names → 0 < length names →
    length words ≡ 2 + nbucket words + nchain words → length names ≤ MAX_HASH → nbucket words ≤ MAX_HASH → IsThreaded words names 1 →
    IsBuilt words names (nbucket words)
all_threaded words names some counted named long few_names few_buckets are = record {
  valid = record {
    some_bucket = some;
    one_each = counted;
    linked = record { long = long; buckets = buckets; chains = chains };
    ends = λ b lt. ascending_ends (chain words) (nchain words) (bucket words b) are.ascending (buckets b lt);
    found = λ s above lt. threaded_on (chain words) (bucket words) (home_of words names) (nbucket words) (nchain words) s are above lt;
  };
  buckets = refl;
  own = λ b s lt on. threaded_own (chain words) (bucket words) (home_of words names) (nbucket words) (nchain words) b s are
      (omega arith) lt on;
  ascending = λ s lt more. elim (are.ascending s lt) [ inl end ↦ absurd (more end) | inr up ↦ up.0 ];
  first = are.unset 0 (omega arith);
  few_names = few_names;
  few_buckets = few_buckets;
} where
  buckets : (b : ℕ) → b < nbucket words → bucket words b < nchain words
  buckets b lt = elim (are.heads b lt) [ inl none ↦ (let e = none in omega arith) | inr up ↦ up.1 ]

  chains : (s : ℕ) → s < nchain words → chain words s < nchain words
  chains s lt = elim (are.ascending s lt) [ inl end ↦ (let e = end in omega arith) | inr up ↦ up.1 ]

named : (names : List (Bor (List ℕ))) (k : ℕ) (d : Bor (List ℕ)) → k < length names →
    get_or (map (λ name. name.now) names) k [] ≡ (get_or names k d).now
named names k d within = get_or-map (λ (name : Bor (List ℕ)). name.now) names k d [] within

length_names : (names : List (Bor (List ℕ))) → length (map (λ name. name.now) names) ≡ length names
length_names names = simp length-map

home_there : (words : List ℕ) (names : List (List ℕ)) (s : ℕ) → nbucket words ≢ 0 → home_of words names s < nbucket words
home_there words names s some = let positive : 0 < nbucket words = omega arith in mod-lt (hash_of (name_of names s)) positive

pub symbols-init : goal.symbols-init
symbols-init c = record {
  threaded = subst (IsThreaded c.args.words.now (map (λ (name : Bor (List ℕ)). name.now) c.args.names.now)) c.requires.one_each
      (none_threaded c.args.words.now _ c.requires.empty);
  buckets = refl;
  symbols = refl;
  some = c.requires.some_name;
  within = omega arith;
}

pub symbols-preserved : goal.symbols-preserved
symbols-preserved c =
    let was = c.symbols.invariant in
    let names : List (List ℕ) = map (λ (name : Bor (List ℕ)). name.now) c.args.names.now in
    let s : ℕ = c.symbols.s - 1 in
    let more = c.symbols-test.true in
    let le = was.within in
    let buckets = was.buckets in
    let symbols = was.symbols in
    let counted = c.requires.one_each in
    let some : nbucket c.symbols.words ≢ 0 = λ none. c.requires.some_bucket (sym buckets ∙ none) in
    let within : s < length c.args.names.now = omega arith in
    let hash : c.elf_hash.result ≡ hash_of (name_of names s) = c.elf_hash.ensures ∙ ap hash_of (sym (named c.args.names.now s _ within)) in
    let put = are_put c.symbols.words s (home_of c.symbols.words names s) (omega arith) (omega arith)
    (home_there c.symbols.words names s some) in
    let same : c.symbols.s ≡ s + 1 = omega arith in
    let now = subst (IsThreaded c.symbols.words names) same was.threaded in
    rw (c.thread_symbol.ensures, hash) (record {
      threaded = put_threaded c.symbols.words _ names s some (omega arith) (omega arith) put now;
      buckets = put.buckets ∙ buckets;
      symbols = put.symbols ∙ symbols;
      some = omega arith;
      within = omega arith;
    })

pub returns : goal.returns
returns c =
    let was = c.symbols.invariant in
    let names : List (List ℕ) = map (λ (name : Bor (List ℕ)). name.now) c.args.names.now in
    let last = c.symbols-test.false in
    let first = was.some in
    let buckets = was.buckets in
    let symbols = was.symbols in
    let counted = c.requires.one_each in
    let long : length names ≡ length c.args.names.now = length_names c.args.names.now in
    let some : nbucket c.symbols.words ≢ 0 = λ none. c.requires.some_bucket (sym buckets ∙ none) in
    let same : c.symbols.s ≡ 1 = omega arith in
    let now = subst (IsThreaded c.symbols.words names) same was.threaded in
    subst (IsBuilt c.symbols.words names) buckets
    (all_threaded c.symbols.words names some (omega arith) (omega arith) (omega arith) (omega arith) (omega arith) now)
