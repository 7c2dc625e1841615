-- If a hash table breaks none of rules 65 to 69, and its content has all its bytes, it is `Valid` for its names. The rules give its size,
-- its counts, and that each word is a symbol. Whether chains end, and what is on them, is decided (`ChainsDecided`), so rules 68 and 69
-- give the rest.
use Rattle.std.proofs.Common.{◌≡◌, ℕ, ◌/◌, ◌<◌, List, [], ◌∷◌, length, map, get_or, refl, ap, zero-add, ◌≢◌, ◌≤◌, ◌+◌, ◌*◌, ◌%◌, None, inl}
use Rattle.std.proofs.Common.{inr, sym, subst, ◌∙◌, arith, Option, Some, ◌++◌, fold, length-append, ◌-◌, Bool, true, false, cond, drop, min}
use Rattle.std.proofs.Common.{not, take, zero, suc}
use Rattle.std.specs.List.{range_with_len, before_first, position_or_len}
use Rattle.std.proofs.lemmas.List.Sums.{fold-append}
use Rattle.std.proofs.lemmas.List.FromFn.{get_or-map-range_with_len, length-map-range_with_len}
use Rattle.std.proofs.Math.Nat.{mod-lt}
use Rattle.std.proofs.lemmas.Bool.{cases_eq, cases_lt}
use Rattle.std.specs.Option.{IsSome}
use Rattle.std.specs.Prelude.{◌==◌}
use Rattle.std.proofs.Math.ListN.{drop_of_length-le}
use Rattle.std.proofs.lemmas.List.{drop-drop, length-take, take-take, take_all, take_rest}
use Rattle.elf_extent.specs.Extent.{Never}
use Rattle.elf_field.specs.Abi.{WORD_SIZE, SHT_HASH}
use Rattle.elf_field.specs.declared.number.Order.{Order}
use Rattle.elf_field.specs.declared.shdr.Shdr.{Shdr}
use Rattle.elf_image_rules.proofs.Public.{FirstIn-after, FirstIn-front}
use Rattle.elf_image_rules.specs.Rows.{FirstIn}
use Rattle.elf_image_rules.specs.Tables.{content_extent}
use Rattle.elf_field.specs.Strings.{string}
use Rattle.elf_table_hash.proofs.Chains.{ends_or_not, on_or_not, chain_short, end_below, one_chain, path_append, path_at, path_push}
use Rattle.elf_table_hash.specs.HashRules.{HashPartsValue, hash_parts, chain_rules, hash_rules, hash_table_rules, hash_word_past_end}
use Rattle.elf_table_hash.specs.HashRules.{word_rules}
use Rattle.elf_table_hash.specs.HashTable.{names_in, symbol_name, words_in, AreHashWords, Valid, bucket, bucket_of, chain, name_of, nbucket}
use Rattle.elf_table_hash.specs.HashTable.{nchain, Ends, IsOn, hash_of, hash_step, symbol_names_of, IsChain, IsPath, HasSymbolNamed}
use Rattle.elf_table_hash.specs.HashTable.{HashValue, IsEndingChain, IsFirstNamed, IsProbed, NoneNamed}
use Rattle.elf_table_hash.specs.HashView.{hash_of_section}
use Rattle.elf_table_symbols.proofs.Public.{type_of_hash}
use Rattle.elf_table_symbols.specs.Sections.{own_rules, Sections, content, order, section}
use Rattle.elf_table_symbols.specs.Symbols.{entry_count, word, SymbolEntryValue, symbol_entry_in, symbols_in, symbols_of}
use Rattle.elf_table_symbols.specs.Symbols.{symbol_table_rules, symbol_parts}
use Rattle.elf_table_symbols.specs.declared.table_section.TableKind.TheVariants.{HashTable}

-- The lists of words and of names have as many entries as whole entries fit, and entry j is `word` or `symbol_name` of j. Both follow from
-- the law of `map` over a range. `names_are`: the names of a table's symbols are this list of names, by induction on the indexes.

pub length_words : (o : Order) (table : List ℕ) → length (words_in o table) ≡ length table / WORD_SIZE
unfolding words_in
length_words o table = length-map-range_with_len (word o table) 0 (length table / WORD_SIZE)

pub word_get : (o : Order) (table : List ℕ) (j : ℕ) → j < length table / WORD_SIZE → get_or (words_in o table) j 0 ≡ word o table j
unfolding words_in
word_get o table j within = get_or-map-range_with_len (word o table) 0 (length table / WORD_SIZE) j j 0 within (zero-add j)

pub length_names : (o : Order) (table names : List ℕ) → length (names_in o table names) ≡ entry_count table
unfolding names_in
length_names o table names = length-map-range_with_len (symbol_name o table names) 0 (entry_count table)

pub name_get : (o : Order) (table names : List ℕ) (j : ℕ) → j < entry_count table →
    get_or (names_in o table names) j [] ≡ symbol_name o table names j
unfolding names_in
name_get o table names j within = get_or-map-range_with_len (symbol_name o table names) 0 (entry_count table) j j [] within (zero-add j)

-- the names of symbols are those of the table
map_names : (o : Order) (table names words xs : List ℕ) →
    map (λ (s : SymbolEntryValue). s.name) (map (symbol_entry_in o table names words) xs) ≡ map (symbol_name o table names) xs
unfolding symbol_entry_in
map_names o table names words [] = refl
map_names o table names words (x ∷ xs) = ap (λ (ns : List (List ℕ)). symbol_name o table names x ∷ ns) (map_names o table names words xs)

pub names_are : (o : Order) (table names words : List ℕ) →
    map (λ (s : SymbolEntryValue). s.name) (symbols_in o table names words) ≡ names_in o table names
unfolding symbols_in names_in
names_are o table names words = map_names o table names words (range_with_len 0 (entry_count table))

-- it has as many bytes in the file as its section header says
pub hash_type : (f : Sections) (i : ℕ) → FirstIn (own_rules HashTable f i) None → (section f i).sh_type ≡ SHT_HASH
unfolding own_rules
hash_type f i own =
    elim (cases_eq (section f i).sh_type SHT_HASH) [
      | inl same ↦ same
      | inr other ↦ absurd (own.0 _ ((λ is. other (type_of_hash _ is)), refl))
    ]

pub hash_content : (s : Shdr) → s.sh_type ≡ SHT_HASH → (content_extent s).len ≡ s.sh_size
hash_content s typed = rw typed refl

-- the names of the symbols of a symbol table, by its content and that of its string table
pub names_of_section : (f : Sections) (i : ℕ) → names_in (order f) (content f i) (content f (section f i).sh_link) ≡ symbol_names_of f i
unfolding symbol_names_of symbols_of
names_of_section f i = sym (names_are _ _ _ (symbol_parts f i).words)

-- a table as long as its buckets and chains, each word of which is that of a symbol
pub linked_words : (p : HashPartsValue) → length p.words ≡ p.size / WORD_SIZE →
    p.size ≡ WORD_SIZE * (2 + nbucket p.words + nchain p.words) → Never (hash_word_past_end p) →
    AreHashWords p.words
unfolding bucket chain
linked_words p sized whole never = record {
  long = omega arith;
  buckets = λ b lt. below b (omega arith);
  chains = λ s lt.
      subst (λ k. get_or p.words k 0 < nchain p.words) (let e : 2 + (nbucket p.words + s) ≡ 2 + nbucket p.words + s = omega arith in e)
      (below (nbucket p.words + s) (omega arith));
} where
  below : (k : ℕ) → k < nbucket p.words + nchain p.words → get_or p.words (2 + k) 0 < nchain p.words
  below k within =
      elim (cases_lt (get_or p.words (2 + k) 0) (nchain p.words)) [
        | inl less ↦ less
        | inr past ↦ absurd (never _ (k, within, past, refl))
      ]

above_zero : (n : ℕ) → n ≢ 0 → 0 < n
above_zero n some = omega arith

-- a table of which rules 65 to 69 hold is one for its names
pub valid_when : (p : HashPartsValue) → length p.words ≡ p.size / WORD_SIZE → FirstIn (word_rules p) None → FirstIn (chain_rules p) None →
    Valid p.words p.names
unfolding word_rules chain_rules
valid_when p sized words chains = record {
  some_bucket = some;
  one_each = counted;
  linked = linked;
  ends = ends;
  found = λ s above lt. found s above lt;
} where
  some : nbucket p.words ≢ 0
  some none = words.1.0 _ (inl (none, refl))

  counted : nchain p.words ≡ length p.names
  counted =
      elim (cases_eq (nchain p.words) (length p.names)) [
        | inl same ↦ same
        | inr other ↦ absurd (words.1.0 _ (inr (inl (other, refl))))
      ]

  whole : p.size ≡ WORD_SIZE * (2 + nbucket p.words + nchain p.words)
  whole =
      elim (cases_eq p.size (WORD_SIZE * (2 + nbucket p.words + nchain p.words))) [
        | inl same ↦ same
        | inr other ↦ absurd (words.0 _ (inr other, refl))
      ]

  linked : AreHashWords p.words
  linked = linked_words p sized whole words.1.1.0

  ends : (b : ℕ) → b < nbucket p.words → Ends (chain p.words) (bucket p.words b)
  ends b lt =
      elim (ends_or_not (chain p.words) (nchain p.words) (bucket p.words b) linked.chains (linked.buckets b lt)) [
        | inl here ↦ here
        | inr endless ↦ absurd (chains.0 _ (b, lt, endless, refl))
      ]

  found : (s : ℕ) → 0 < s → s < nchain p.words → IsOn (chain p.words) (bucket_of p.words (name_of p.names s)) s
  found s above lt =
      let hash = hash_of (name_of p.names s) in
      let within : hash % nbucket p.words < nbucket p.words = mod-lt hash (above_zero (nbucket p.words) some) in
      elim (on_or_not (chain p.words) (bucket_of p.words (name_of p.names s)) s (ends (hash % nbucket p.words) within)) [
        | inl here ↦ here
        | inr off ↦ absurd (chains.1.0 _ (s, lt, (above, off), refl))
      ]

-- so the hash table in a section that breaks no rule is one for its symbols, where its content has all its bytes
pub valid_in_section : (f : Sections) (i : ℕ) → FirstIn (hash_table_rules f i) None → length (content f i) ≡ (section f i).sh_size →
    Valid (hash_of_section f i).words (hash_of_section f i).names
unfolding hash_table_rules hash_rules
valid_in_section f i sound whole =
    let linked = FirstIn-after (own_rules HashTable f i) _ sound in
    let rest = FirstIn-after (symbol_table_rules f (section f i).sh_link) _ linked in
    valid_when (hash_parts f i) (length_words (order f) (content f i) ∙ ap (λ n. n / WORD_SIZE) whole)
    (FirstIn-front (word_rules (hash_parts f i)) _ rest) (FirstIn-after (word_rules (hash_parts f i)) _ rest)

-- and its section is of type HASH
pub sound_hash_type : (f : Sections) (i : ℕ) → FirstIn (hash_table_rules f i) None → (section f i).sh_type ≡ SHT_HASH
unfolding hash_table_rules
sound_hash_type f i sound = hash_type f i (FirstIn-front (own_rules HashTable f i) _ sound)

-- A walk along a chain that ends: the symbols passed do not have the name, and are fewer than there are. At the first symbol with the name,
-- or at the end, the walk has its result (`walk_found`, `walk_ended`). In a valid table a symbol is found exactly if one from 1 on has the
-- name, because it is on its bucket's chain (`probe_some`).

-- what is left of a chain at a symbol: the symbol, and the chain of its chain word
pub left_at : (next : ℕ → ℕ) (s : ℕ) (left : List ℕ) → s ≢ 0 → IsChain next s left →
    (after : List ℕ) × IsChain next (next s) after × (left ≡ s ∷ after)
left_at next s [] some chain = absurd (some chain)
left_at next s (y ∷ after) some chain = (after, subst (λ k. IsChain next (next k) after) chain.1 chain.2, ap (λ k. k ∷ after) chain.1)

-- the symbols looked at and those left are fewer than there are
pub looked_short : (next : ℕ → ℕ) (m start s : ℕ) (done left : List ℕ) → ((k : ℕ) → k < m → next k < m) → start < m →
    IsPath next start done s → IsChain next s left →
    length done + length left < m
looked_short next m start s done left below within path ends =
    let short = chain_short next m start (done ++ left) below within (path_append next start s 0 done left path ends) in
    let sum = length-append done left in
    omega arith

pub none_more : (names : List (List ℕ)) (name : List ℕ) (s : ℕ) (done : List ℕ) → NoneNamed names name done → name_of names s ≢ name →
    NoneNamed names name (done ++ s ∷ [])
none_more names name s [] none other = (other, tt)
none_more names name s (x ∷ done) none other = (none.0, none_more names name s done none.1 other)

-- ---- a walk along a chain

-- after so many symbols it is at s; none of them had the name
pub record IsWalked (words : List ℕ) (names : List (List ℕ)) (name : List ℕ) (start steps s : ℕ) : Type 0 where
  pub done : List ℕ
  pub left : List ℕ
  pub path : IsPath (chain words) start done s
  pub ends : IsChain (chain words) s left
  pub count : steps ≡ length done
  pub apart : NoneNamed names name done
  pub inside : s < nchain words

pub walk_begins : (words : List ℕ) (names : List (List ℕ)) (name : List ℕ) (start : ℕ) → IsEndingChain words names start →
    IsWalked words names name start 0 start
walk_begins words names name start chained =
    record { done = []; left = chained.ends.0; path = refl; ends = chained.ends.1; count = refl; apart = tt; inside = chained.inside }

-- it has looked at fewer symbols than there are
pub walk_short : (words : List ℕ) (names : List (List ℕ)) (name : List ℕ) (start steps s : ℕ) → IsEndingChain words names start →
    IsWalked words names name start steps s → steps < nchain words
walk_short words names name start steps s chained walked =
    let short = looked_short (chain words)
    (nchain words) start s walked.done walked.left chained.valid.linked.chains chained.inside walked.path walked.ends in
    let count = walked.count in
    omega arith

-- and before a symbol at least one fewer
pub walk_shorter : (words : List ℕ) (names : List (List ℕ)) (name : List ℕ) (start steps s : ℕ) → IsEndingChain words names start →
    IsWalked words names name start steps s → s ≢ 0 → steps + 1 < nchain words
walk_shorter words names name start steps s chained walked some =
    let short = looked_short (chain words)
    (nchain words) start s walked.done walked.left chained.valid.linked.chains chained.inside walked.path walked.ends in
    let count = walked.count in
    let (after, rest, is) = left_at (chain words) s walked.left some walked.ends in
    let long = ap (λ (xs : List ℕ). length xs) is in
    omega arith

pub walk_found : (words : List ℕ) (names : List (List ℕ)) (name : List ℕ) (start steps s : ℕ) → IsWalked words names name start steps s →
    s ≢ 0 → name_of names s ≡ name → IsFirstNamed (chain words) names name start (Some s) (steps + 1)
walk_found words names name start steps s walked some named =
    let (after, rest, is) = left_at (chain words) s walked.left some walked.ends in (
      walked.done,
      after,
      path_append (chain words) start s 0 walked.done (s ∷ after) walked.path (some, refl, rest),
      ap (λ n. n + 1) walked.count,
      named,
      walked.apart,
    )

pub walk_ended : (words : List ℕ) (names : List (List ℕ)) (name : List ℕ) (start steps s : ℕ) → IsWalked words names name start steps s →
    s ≡ 0 → IsFirstNamed (chain words) names name start None steps
walk_ended words names name start steps s walked none =
    (walked.done, subst (λ (end : ℕ). IsPath (chain words) start walked.done end) none walked.path, walked.count, walked.apart)

pub walk_more : (words : List ℕ) (names : List (List ℕ)) (name : List ℕ) (start steps s : ℕ) → IsEndingChain words names start →
    IsWalked words names name start steps s → s ≢ 0 → name_of names s ≢ name → IsWalked words names name start (steps + 1) (chain words s)
walk_more words names name start steps s chained walked some other =
    let (after, rest, is) = left_at (chain words) s walked.left some walked.ends in
    let sum = length-append walked.done (s ∷ []) in
    let count = walked.count in
    record {
      done = walked.done ++ s ∷ [];
      left = after;
      path = path_push (chain words) start s walked.done walked.path some;
      ends = rest;
      count = omega arith;
      apart = none_more names name s walked.done walked.apart other;
      inside = chained.valid.linked.chains s walked.inside;
    }

-- ---- whether a symbol has a name

-- a symbol of the name is not among those that do not have it
none_there : (names : List (List ℕ)) (name : List ℕ) (s : ℕ) (before after : List ℕ) → NoneNamed names name (before ++ s ∷ after) →
    name_of names s ≡ name → ⊥
none_there names name s [] after none named = none.0 named
none_there names name s (x ∷ before) after none named = none_there names name s before after none.1 named

-- the bucket of a name is one of the table's
pub bucket_there : (words : List ℕ) (name : List ℕ) → nbucket words ≢ 0 → hash_of name % nbucket words < nbucket words
bucket_there words name some = let above : 0 < nbucket words = omega arith in mod-lt (hash_of name) above

pub bucket_ends : (words : List ℕ) (names : List (List ℕ)) (name : List ℕ) → Valid words names → Ends (chain words) (bucket_of words name)
bucket_ends words names name valid = valid.ends (hash_of name % nbucket words) (bucket_there words name valid.some_bucket)

-- a symbol is found exactly where one from 1 on has the name
pub probe_some : (hash : HashValue) (name : List ℕ) (found : Option ℕ) (steps : ℕ) → Valid hash.words hash.names →
    IsProbed hash name found steps →
    (IsSome found → HasSymbolNamed hash name) × (HasSymbolNamed hash name → IsSome found)
probe_some hash name (Some s) steps valid probed = (
  (λ _. (
      let (before, after, whole, count, named, none) = probed in
      let (some, front, back) = path_at (chain hash.words) (bucket_of hash.words name) 0 s before after whole in
      let within = valid.linked.buckets (hash_of name % nbucket hash.words) (bucket_there hash.words name valid.some_bucket) in
      let below = end_below (chain hash.words) (nchain hash.words) (bucket_of hash.words name) s before valid.linked.chains within front in
      let counted = valid.one_each in
      (s, (omega arith), (omega arith), named))),
  λ _. refl,
)
probe_some hash name None steps valid probed = (
  (λ is. cc),
  λ there. (
      let (s, above, below, named) = there in
      let (symbols, whole, count, none) = probed in
      let counted = valid.one_each in
      let on = valid.found s above (omega arith) in
      let same = one_chain (chain hash.words) (bucket_of hash.words name) symbols (on.0 ++ s ∷ on.1) whole
      (subst (λ n. IsChain (chain hash.words) (bucket_of hash.words n) (on.0 ++ s ∷ on.1)) named on.2) in
      absurd (none_there hash.names name s on.0 on.1 (subst (NoneNamed hash.names name) same none) named)),
)

-- the chain of a name's bucket ends, and begins in the table
pub bucket_chain : (words : List ℕ) (names : List (List ℕ)) (name : List ℕ) → Valid words names →
    IsEndingChain words names (bucket_of words name)
bucket_chain words names name valid = record {
  valid = valid;
  inside = valid.linked.buckets (hash_of name % nbucket words) (bucket_there words name valid.some_bucket);
  ends = bucket_ends words names name valid;
}

-- A string is known by the first bytes from its place on, one more than the length of the name that it is compared with: if its zero is
-- not among them, the string is longer, and otherwise all of it was seen.

abbrev end_of : List ℕ → ℕ
end_of xs = position_or_len (λ byte. byte == 0) xs

abbrev string_of : List ℕ → List ℕ
string_of xs = before_first (λ byte. byte == 0) xs

end_near : (xs : List ℕ) (n : ℕ) → end_of (take n xs) ≡ min n (end_of xs)
end_near [] zero = omega arith
end_near [] (suc n) = omega arith
end_near (x ∷ xs) zero = omega arith
end_near (x ∷ xs) (suc n) = by (x == 0) (end_near xs n)
  where
    by : (b : Bool) → end_of (take n xs) ≡ min n (end_of xs) →
        cond (not b) (1 + end_of (take n xs)) 0 ≡ min (suc n) (cond (not b) (1 + end_of xs) 0)
    by true rest = omega arith
    by false rest = omega arith

-- the string of n bytes of xs is as long as these let it be
cut_string : (xs : List ℕ) (n : ℕ) → string_of (take n xs) ≡ take (min n (end_of xs)) xs
cut_string xs n = ap (λ (k : ℕ). take k (take n xs)) (end_near xs n) ∙ take-take (min n (end_of xs)) n xs (omega arith)

pub near_same : (xs name : List ℕ) (n : ℕ) → n ≡ min (length xs) (length name + 1) → string_of (take n xs) ≡ name → string_of xs ≡ name
near_same xs name n near same = elim (cases_lt (length name + 1) (length xs)) [
  | inl below ↦
      let cut : take (min n (end_of xs)) xs ≡ name = sym (cut_string xs n) ∙ same in
      let long = sym (length-take (min n (end_of xs)) xs) ∙ ap (length {A = ℕ}) cut in
      ap (λ (k : ℕ). take k xs) (omega arith) ∙ cut
  | inr past ↦ ap string_of (sym (take_all n xs (omega arith))) ∙ same
]

pub near_back : (xs name : List ℕ) (n : ℕ) → n ≡ min (length xs) (length name + 1) → string_of xs ≡ name → string_of (take n xs) ≡ name
near_back xs name n near same = elim (cases_lt (length name + 1) (length xs)) [
  | inl below ↦
      let long = sym (length-take (end_of xs) xs) ∙ ap (length {A = ℕ}) same in
      cut_string xs n ∙ ap (λ (k : ℕ). take k xs) (omega arith) ∙ same
  | inr past ↦ ap string_of (take_all n xs (omega arith)) ∙ same
]

-- what is there of a list from an offset on, or nothing past its end
pub rest_from : (xs : List ℕ) (x : ℕ) → take (length xs - min x (length xs)) (drop (min x (length xs)) xs) ≡ drop x xs
rest_from xs x =
    take_rest xs (min x (length xs)) ∙ elim (cases_lt x (length xs)) [
      | inl below ↦ ap (λ (n : ℕ). drop n xs) (omega arith)
      | inr past ↦ drop_of_length-le xs (omega arith) ∙ sym (drop_of_length-le xs (omega arith))
    ]

-- the string of n bytes of xs is that of xs, if it has fewer bytes, or xs has no more
pub near_whole : (xs : List ℕ) (n most : ℕ) → n ≡ min (length xs) (most + 1) → length (string_of (take n xs)) ≤ most →
    string_of (take n xs) ≡ string_of xs
near_whole xs n most near short = elim (cases_lt (length xs) (most + 1)) [
  | inl below ↦ ap string_of (take_all n xs (omega arith))
  | inr past ↦
      let long : min (min n (end_of xs)) (length xs) ≤ most = rw (cut_string xs n, length-take (min n (end_of xs)) xs) at short in
      cut_string xs n ∙ ap (λ (k : ℕ). take k xs) (omega arith)
]

-- the string of xs is as many bytes as come before its zero, and from any of them on the rest of it
split_string : (n : ℕ) (xs : List ℕ) → n ≤ end_of xs → string_of xs ≡ take n xs ++ string_of (drop n xs)
split_string zero xs le = refl
split_string (suc n) [] le = absurd (let none : suc n ≤ 0 = le in (omega arith))
split_string (suc n) (x ∷ xs) le = by (x == 0) le (λ rest. split_string n xs rest)
  where
    by : (b : Bool) → suc n ≤ cond (not b) (1 + end_of xs) 0 → (n ≤ end_of xs → string_of xs ≡ take n xs ++ string_of (drop n xs)) →
        take (cond (not b) (1 + end_of xs) 0) (x ∷ xs) ≡ x ∷ (take n xs ++ string_of (drop n xs))
    by true le rest = absurd (let none : suc n ≤ 0 = le in (omega arith))
    by false le rest =
        ap (λ (k : ℕ). take k (x ∷ xs)) (let e : 1 + end_of xs ≡ suc (end_of xs) = omega arith in e) ∙
        ap (λ (ys : List ℕ). x ∷ ys) (rest (let more : suc n ≤ 1 + end_of xs = le in omega arith))

-- the bytes between two offsets, and the string at the second, are the string at the first, if no zero is between
pub string_from : (table : List ℕ) (from to : ℕ) → from ≤ to → to ≤ length table →
    to - from ≤ length (string_of (take (to - from) (drop from table))) →
    string table from ≡ string_of (take (to - from) (drop from table)) ++ string table to
string_from table from to le within whole =
    let n = to - from in
    let xs = drop from table in
    let far : n ≤ end_of xs =
    (let long : n ≤ min (min n (end_of xs)) (length xs) = rw (cut_string xs n, length-take (min n (end_of xs)) xs) at whole in
    omega arith) in
    let own : string_of (take n xs) ≡ take n xs = cut_string xs n ∙ ap (λ (k : ℕ). take k xs) (omega arith) in
    let rest : drop n xs ≡ drop to table = drop-drop n from table ∙ ap (λ (k : ℕ). drop k table) (omega arith) in
    rw (split_string n xs far, own, rest) refl

-- and so the hash of these bytes becomes that of the string at the first
pub hash_from : (table : List ℕ) (from to : ℕ) → from ≤ to → to ≤ length table →
    to - from ≤ length (string_of (take (to - from) (drop from table))) →
    fold hash_step (hash_of (string_of (take (to - from) (drop from table)))) (string table to) ≡ hash_of (string table from)
hash_from table from to le within whole =
    sym (ap hash_of (string_from table from to le within whole) ∙
    fold-append hash_step 0 (string_of (take (to - from) (drop from table))) (string table to))
