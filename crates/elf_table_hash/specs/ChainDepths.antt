-- What the test of a hash table's chains keeps: for each of its m symbols how long its chain is, as far as that is known, and a
-- symbol further down. Here `next` gives the chain word of each symbol.
use Rattle.std.specs.Prelude.{◌≡◌, ℕ, ◌<◌, ◌⊎◌, Bool, true, false, List, ◌∷◌, ◌++◌, get_or, length, ◌≢◌, ◌+◌, ◌%◌, ◌≤◌, slice_set}
use Rattle.elf_table_hash.specs.HashTable.{IsChain, IsPath, hash_of, bucket, chain, name_of, nbucket, nchain, AreHashWords}
use Rattle.elf_table_hash.specs.declared.hash_chains.KnownChains.TheInside.{Inside}

-- the words of a hash table, and for each symbol the length of its chain, 0 where that isn't known
pub record ChainsValue : Type 0 where
  pub words : List ℕ
  pub depth : List ℕ

-- the length of the chain from s on is known: 0 is its end
abbrev pub IsDepthKnown : List ℕ → ℕ → Type 0
IsDepthKnown depth s = (s ≡ 0) ⊎ (0 < get_or depth s 0)

-- each depth that isn't 0 is the length of the symbol's chain, and all of that chain is known
pub record AreDepths (next : ℕ → ℕ) (m : ℕ) (depth : List ℕ) : Type 0 where
  pub long : length depth ≡ m
  pub right : (s : ℕ) → 0 < get_or depth s 0 → (symbols : List ℕ) × IsChain next s symbols × (length symbols ≡ get_or depth s 0)
  pub closed : (s : ℕ) → 0 < get_or depth s 0 → IsDepthKnown depth (next s)

-- the chain of s leads to t
abbrev pub Leads : (ℕ → ℕ) → ℕ → ℕ → Type 0
Leads next s t = (symbols : List ℕ) × IsPath next s symbols t

-- each symbol's jump is a symbol that its chain leads to
pub record AreJumps (next : ℕ → ℕ) (m : ℕ) (jump : List ℕ) : Type 0 where
  pub long : length jump ≡ m
  pub inside : (s : ℕ) → s < m → get_or jump s 0 < m
  pub right : (s : ℕ) → s < m → Leads next s (get_or jump s 0)

-- each symbol with a depth is on the chain of the word that it was first met from
pub record AreStarts (next : ℕ → ℕ) (m : ℕ) (depth starts : List ℕ) : Type 0 where
  pub long : length starts ≡ m
  pub right : (s : ℕ) → 0 < get_or depth s 0 → Leads next (get_or starts s 0) s

-- s is among these symbols
abbrev pub IsAmongSymbols : List ℕ → ℕ → Type 0
IsAmongSymbols symbols s = (before after : List ℕ) × (symbols ≡ before ++ s ∷ after)

-- Chains as they are made, from the last symbol down: `next` gives the chain word of each symbol, `head` the word of each bucket, and
-- `home` the bucket of each symbol.

-- the symbols from `from` on, of m, are on the chains of their buckets, of n
pub record AreThreaded (next head home : ℕ → ℕ) (n m from : ℕ) : Type 0 where
  pub heads : (b : ℕ) → b < n → (head b ≡ 0) ⊎ ((from ≤ head b) × (head b < m))
  pub ascending : (s : ℕ) → s < m → (next s ≡ 0) ⊎ ((s < next s) × (next s < m))
  pub unset : (s : ℕ) → s < from → next s ≡ 0
  pub found : (s : ℕ) → from ≤ s → s < m → Leads next (head (home s)) s
  -- no chain has a symbol of another bucket
  pub own_heads : (b : ℕ) → b < n → head b ≢ 0 → home (head b) ≡ b
  pub own_links : (s : ℕ) → s < m → next s ≢ 0 → home (next s) ≡ home s

-- in the 32-bit words of a table for these names
abbrev pub home_of : List ℕ → List (List ℕ) → ℕ → ℕ
home_of words names s = hash_of (name_of names s) % nbucket words

abbrev pub IsThreaded : List ℕ → List (List ℕ) → ℕ → Type 0
IsThreaded words names from = AreThreaded (chain words) (bucket words) (home_of words names) (nbucket words) (nchain words) from

-- symbol s put before the others on the chain of bucket b
unfoldable pub threaded : List ℕ → ℕ → ℕ → List ℕ
threaded words s b = slice_set (slice_set words (2 + nbucket words + s) (bucket words b)) (2 + b) s

-- The chains of a hash table, as the functions of `KnownChains` look at them.

-- the jumps and the starts are ways to a chain, and no part of it
abbrev pub chains_value : Inside → ChainsValue
chains_value k = record { words = k.words.now; depth = k.depth.now }

-- what the lists say of the chains of these words is right
pub record AreKnownChains (words depth jump met : List ℕ) : Type 0 where
  pub linked : AreHashWords words
  pub depths : AreDepths (chain words) (nchain words) depth
  pub jumps : AreJumps (chain words) (nchain words) jump
  pub starts : AreStarts (chain words) (nchain words) depth met
