-- A hash table, as the list of its words: nbucket, nchain, a word for each bucket, and a chain word for each symbol.
-- (gABI chapter 5, Hash Table.)
use Rattle.std.specs.Prelude.{◌≡◌, ◌≢◌, ℕ, List, [], ◌∷◌, ◌++◌, ◌+◌, ◌*◌, ◌/◌, ◌%◌, ◌^◌, bit_xor, fold, ◌<◌, get_or, length, ◌≤◌, ◌⊎◌, map}
use Rattle.std.specs.Prelude.{Option, None, Some}
use Rattle.std.specs.List.{range_with_len, AllByRecursion}
use Rattle.elf_field.specs.Abi.{WORD_SIZE}
use Rattle.elf_field.specs.declared.number.Order.{Order}
use Rattle.elf_field.specs.Strings.{string}
use Rattle.elf_table_hash.specs.declared.hash_building.HashFault.TheVariants.{NoBuckets, OutOfMemory, TooMany}
use Rattle.elf_table_hash.specs.declared.hash_building.HashFault.{HashFault}
use Rattle.elf_table_symbols.specs.Sections.{Sections}
use Rattle.elf_table_symbols.specs.Symbols.{entry, entry_count, word, SymbolEntryValue, symbols_of}

-- The chains of a hash table, as lists of symbols: each the chain word of the one before, up to 0. (gABI chapter 5, Hash Table.)
-- Here `next` gives the chain word of each symbol.

-- these symbols are one after the other from `start` on, and `end` comes after them
abbrev pub IsPath : (ℕ → ℕ) → ℕ → List ℕ → ℕ → Type 0
IsPath next start [] end = start ≡ end
IsPath next start (s ∷ symbols) end = (start ≢ 0) × (s ≡ start) × IsPath next (next s) symbols end

-- these symbols are the chain from `start` on
abbrev pub IsChain : (ℕ → ℕ) → ℕ → List ℕ → Type 0
IsChain next start symbols = IsPath next start symbols 0

-- the chain from `start` on ends
abbrev pub Ends : (ℕ → ℕ) → ℕ → Type 0
Ends next start = (symbols : List ℕ) × IsChain next start symbols

-- symbol s is on it
abbrev pub IsOn : (ℕ → ℕ) → ℕ → ℕ → Type 0
IsOn next start s = (before after : List ℕ) × IsChain next start (before ++ s ∷ after)

-- The hash of a symbol's name. (gABI chapter 5, Hash Table.)

-- the hash after one more byte: sixteen times the hash and the byte, in 32 bits; then the top four of them are also put in
-- 24 bits lower, by exclusive or, and are cleared where they were
abbrev pub hash_step : ℕ → ℕ → ℕ
hash_step hash byte =
    let sum = (16 * hash + byte) % 2 ^ 32 in
    let top = sum / 2 ^ 28 * 2 ^ 28 in
    bit_xor sum (top / 2 ^ 24) % 2 ^ 28

-- the hash of a name, byte by byte from 0 on
abbrev pub hash_of : List ℕ → ℕ
hash_of name = fold hash_step 0 name

abbrev pub nbucket : List ℕ → ℕ
nbucket words = get_or words 0 0

abbrev pub nchain : List ℕ → ℕ
nchain words = get_or words 1 0

-- the word of bucket b: the first symbol of its chain, 0 where there is none
unfoldable pub bucket : List ℕ → ℕ → ℕ
bucket words b = get_or words (2 + b) 0

-- the chain word of symbol s: the next symbol of its chain, 0 where there is none
unfoldable pub chain : List ℕ → ℕ → ℕ
chain words s = get_or words (2 + nbucket words + s) 0

-- the word of the bucket for symbols of this name
abbrev pub bucket_of : List ℕ → List ℕ → ℕ
bucket_of words name = bucket words (hash_of name % nbucket words)

-- the name of symbol s
abbrev pub name_of : List (List ℕ) → ℕ → List ℕ
name_of names s = get_or names s []

-- the table has all its words, and each word after the first two is that of a symbol
pub record AreHashWords (words : List ℕ) : Type 0 where
  pub long : length words ≡ 2 + nbucket words + nchain words
  pub buckets : (b : ℕ) → b < nbucket words → bucket words b < nchain words
  pub chains : (s : ℕ) → s < nchain words → chain words s < nchain words

-- a hash table for symbols of these names, symbol 0 among them
pub record Valid (words : List ℕ) (names : List (List ℕ)) : Type 0 where
  pub some_bucket : nbucket words ≢ 0
  pub one_each : nchain words ≡ length names
  pub linked : AreHashWords words
  -- the chain of each bucket ends
  pub ends : (b : ℕ) → b < nbucket words → Ends (chain words) (bucket words b)
  -- each symbol from 1 on is on the chain of its name's bucket
  pub found : (s : ℕ) → 0 < s → s < nchain words → IsOn (chain words) (bucket_of words (name_of names s)) s

-- A hash table made for names. (gABI chapter 5, Hash Table.)

-- the most names and the most buckets of a table that is made
abbrev pub MAX_HASH : ℕ
MAX_HASH = 2 ^ 24

-- the 32-bit words are a hash table of n buckets for these names
pub record IsBuilt (words : List ℕ) (names : List (List ℕ)) (n : ℕ) : Type 0 where
  pub valid : Valid words names
  pub buckets : nbucket words ≡ n
  -- a chain has the symbols of its own bucket alone
  pub own : (b s : ℕ) → b < n → IsOn (chain words) (bucket words b) s → hash_of (name_of names s) % n ≡ b
  -- and they ascend along it
  pub ascending : (s : ℕ) → s < nchain words → chain words s ≢ 0 → s < chain words s
  pub first : chain words 0 ≡ 0
  pub few_names : length names ≤ MAX_HASH
  pub few_buckets : n ≤ MAX_HASH

-- why none is made: the first of these that holds
abbrev pub IsRefused : ℕ → ℕ → HashFault → Type 0
IsRefused names buckets NoBuckets = buckets ≡ 0
IsRefused names buckets TooMany = (buckets ≢ 0) × ((MAX_HASH < names) ⊎ (MAX_HASH < buckets))
IsRefused names buckets OutOfMemory = (buckets ≢ 0) × (names ≤ MAX_HASH) × (buckets ≤ MAX_HASH)

-- The words of a section, and the names of the symbols of a symbol table, as lists.
-- (gABI chapter 4, String Table, Symbol Table; chapter 5, Hash Table.)

-- the words of a content
unfoldable pub words_in : Order → List ℕ → List ℕ
words_in o table = map (word o table) (range_with_len 0 (length table / WORD_SIZE))

-- the name of symbol j of a symbol table's content, and the names of all its symbols, with this content of its string table
abbrev pub symbol_name : Order → List ℕ → List ℕ → ℕ → List ℕ
symbol_name o table names j = string names (entry o table j).st_name

unfoldable pub names_in : Order → List ℕ → List ℕ → List (List ℕ)
names_in o table names = map (symbol_name o table names) (range_with_len 0 (entry_count table))

-- the names of the symbols of the symbol table in section i
unfoldable pub symbol_names_of : Sections → ℕ → List (List ℕ)
symbol_names_of f i = map (λ (s : SymbolEntryValue). s.name) (symbols_of f i)

-- Looking up a name in a hash table. (gABI chapter 5, Hash Table.)

-- a hash table, and the names of the symbols that it is for
pub record HashValue : Type 0 where
  pub words : List ℕ
  pub names : List (List ℕ)

-- that of these contents of a hash table, its symbol table and its string table
abbrev pub hash_in : Order → List ℕ → List ℕ → List ℕ → HashValue
hash_in o table symbols strings = record { words = words_in o table; names = names_in o symbols strings }

-- none of these symbols has the name
abbrev pub NoneNamed : List (List ℕ) → List ℕ → List ℕ → Type 0
NoneNamed names name symbols = AllByRecursion (λ s. name_of names s ≢ name) symbols

-- the first symbol of the name on the chain from `start` on, with its position there, counted from 1; or the length of the
-- chain, where there is none
abbrev pub IsFirstNamed : (ℕ → ℕ) → List (List ℕ) → List ℕ → ℕ → Option ℕ → ℕ → Type 0
IsFirstNamed next names name start (Some s) steps =
    (before after : List ℕ) × IsChain next start (before ++ s ∷ after) × (steps ≡ length before + 1) × (name_of names s ≡ name) ×
    NoneNamed names name before
IsFirstNamed next names name start None steps =
    (symbols : List ℕ) × IsChain next start symbols × (steps ≡ length symbols) × NoneNamed names name symbols

-- what is found on the chain of the name's bucket
abbrev pub IsProbed : HashValue → List ℕ → Option ℕ → ℕ → Type 0
IsProbed hash name found steps = IsFirstNamed (chain hash.words) hash.names name (bucket_of hash.words name) found steps

-- a symbol from 1 on has the name
abbrev pub HasSymbolNamed : HashValue → List ℕ → Type 0
HasSymbolNamed hash name = (s : ℕ) × (0 < s) × (s < length hash.names) × (name_of hash.names s ≡ name)

-- the chain from `start` on of a table for these names: it begins at one of its symbols, 0 among them, and ends
pub record IsEndingChain (words : List ℕ) (names : List (List ℕ)) (start : ℕ) : Type 0 where
  pub valid : Valid words names
  pub inside : start < nchain words
  pub ends : Ends (chain words) start
