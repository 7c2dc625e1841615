-- Rules 65 to 69: the words and the chains of a hash table. (gABI chapter 5, Hash Table.)
use Rattle.std.specs.Prelude.{ℕ, List, ◌≡◌, ◌≢◌, ◌+◌, ◌*◌, ◌<◌, ◌≤◌, ◌⊎◌, [], ◌∷◌, ◌++◌, get_or, length}
use Rattle.elf_field.specs.Abi.{SH_SIZE_AT, WORD_SIZE}
use Rattle.elf_image_rules.specs.Rows.{AtEntry, Either, Row, Ruled, When, rule}
use Rattle.elf_table_hash.specs.HashTable.{symbol_names_of, words_in, Ends, IsOn, bucket, bucket_of, chain, name_of, nbucket, nchain}
use Rattle.elf_table_symbols.specs.Sections.{Sections, content, header_at, order, section, own_rules}
use Rattle.elf_table_symbols.specs.Symbols.{symbol_table_rules}
use Rattle.elf_table_symbols.specs.declared.table_section.TableKind.TheVariants.{HashTable}
use Rattle.elf_table_hash.specs.declared.hash_parts.HashParts as declared

-- What the rules of a hash table look at, beside its own section header: its words, and the names of the symbols of the symbol
-- table that it links to. (gABI chapter 5, Hash Table.)

pub record HashPartsValue : Type 0 where
  -- the offset of the section header, and its sh_size
  pub header : ℕ
  pub size : ℕ
  pub words : List ℕ
  -- the offset of the words
  pub start : ℕ
  pub names : List (List ℕ)

-- those of the hash table in section i
abbrev pub hash_parts : Sections → ℕ → HashPartsValue
hash_parts f i =
    let s = section f i in
    record {
      header = header_at f i;
      size = s.sh_size;
      words = words_in (order f) (content f i);
      start = s.sh_offset;
      names = symbol_names_of f s.sh_link;
    }

-- those that the code has gathered
abbrev pub hash_parts_value : declared.HashParts → HashPartsValue
hash_parts_value p = record { header = p.header; size = p.size; words = p.words; start = p.start; names = p.names }

-- the offset in the file of the word of bucket b, and of the chain word of symbol s
abbrev pub bucket_at : HashPartsValue → ℕ → ℕ
bucket_at p b = p.start + WORD_SIZE * (2 + b)

abbrev pub chain_at : HashPartsValue → ℕ → ℕ
chain_at p s = p.start + WORD_SIZE * (2 + nbucket p.words + s)

-- rule 65: the table is not as long as its buckets and chains are
abbrev pub wrong_hash_size : HashPartsValue → Row ℕ
wrong_hash_size p =
    When ((p.size < WORD_SIZE * 2) ⊎ (p.size ≢ WORD_SIZE * (2 + nbucket p.words + nchain p.words))) (p.header + SH_SIZE_AT)

-- rule 66: it has no bucket, or not one chain word for each symbol
abbrev pub wrong_hash_count : HashPartsValue → Row ℕ
wrong_hash_count p = Either (
    When (nbucket p.words ≡ 0) p.start ∷
    When (nchain p.words ≢ length p.names) (p.start + WORD_SIZE) ∷ [])

-- rule 67: the word of a bucket, or a chain word, is none of a symbol
abbrev pub hash_word_past_end : HashPartsValue → Row ℕ
hash_word_past_end p =
    AtEntry (nbucket p.words + nchain p.words)
    (λ k. nchain p.words ≤ get_or p.words (2 + k) 0)
    (λ k. p.start + WORD_SIZE * (2 + k))

-- rule 68: the chain of a bucket does not end
abbrev pub endless_chain : HashPartsValue → Row ℕ
endless_chain p = AtEntry (nbucket p.words) (λ b. ¬ Ends (chain p.words) (bucket p.words b)) (bucket_at p)

-- rule 69: a symbol from 1 on is not on the chain of its name's bucket
abbrev pub symbol_off_chain : HashPartsValue → Row ℕ
symbol_off_chain p =
    AtEntry (nchain p.words)
    (λ s. (0 < s) × ¬ IsOn (chain p.words) (bucket_of p.words (name_of p.names s)) s)
    (chain_at p)

-- ---- the runs of rules

-- rules 65 to 67
unfoldable pub word_rules : HashPartsValue → List {1} (Ruled ℕ)
word_rules p = rule 65 (wrong_hash_size p) ∷ rule 66 (wrong_hash_count p) ∷ rule 67 (hash_word_past_end p) ∷ []

-- rules 68 and 69
unfoldable pub chain_rules : HashPartsValue → List {1} (Ruled ℕ)
chain_rules p = rule 68 (endless_chain p) ∷ rule 69 (symbol_off_chain p) ∷ []

-- those after the rules of the section header, and of the symbol table
unfoldable pub hash_rules : Sections → ℕ → List {1} (Ruled ℕ)
hash_rules f i = word_rules (hash_parts f i) ++ chain_rules (hash_parts f i)

-- all rules of the hash table in section i, in the order in which they are tested
unfoldable pub hash_table_rules : Sections → ℕ → List {1} (Ruled ℕ)
hash_table_rules f i = own_rules HashTable f i ++ (symbol_table_rules f (section f i).sh_link ++ hash_rules f i)

-- those of them before which memory is not asked for: 68 and 69 are left out
unfoldable pub hash_table_front : Sections → ℕ → List {1} (Ruled ℕ)
hash_table_front f i = own_rules HashTable f i ++ (symbol_table_rules f (section f i).sh_link ++ word_rules (hash_parts f i))
