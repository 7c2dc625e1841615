-- The list of symbols has `entry_count` entries, and entry j is `symbol_entry_in` of j. If the table breaks no rule, the section that it
-- links to is there (rule 44). Each symbol with index 0xffff then has its word (rules 50 and 51), if the index table's words are as long as
-- its header says.
use Rattle.std.proofs.Common.{ℕ, ◌<◌, None, inl, inr, refl, ◌≡◌, Some, arith, ◌*◌, Option, List, length, get_or, ◌++◌, sym, subst, zero-add}
use Rattle.std.proofs.lemmas.Bool.{cases_lt, cases_eq}
use Rattle.std.proofs.lemmas.Grind.{common_steps}
use Rattle.std.proofs.lemmas.List.FromFn.{get_or-map-range_with_len, length-map-range_with_len}
use Rattle.elf_field.specs.Abi.{SHT_GROUP, SHT_HASH, SHN_XINDEX, WORD_SIZE}
use Rattle.elf_field.specs.declared.number.Order.{Order}
use Rattle.elf_image_rules.proofs.Public.{FirstIn-after, FirstIn-front}
use Rattle.elf_image_rules.specs.Rows.{FirstIn}
use Rattle.elf_table_symbols.specs.Sections.{own_rules, Sections, count, section, IsSymbolType, kind_of}
use Rattle.elf_table_symbols.specs.SymbolView.{no_symbol_entry}
use Rattle.elf_table_symbols.specs.Symbols.{index_table, linked_string_rules, SymbolPartsValue, symbol_parts, entry, entry_count}
use Rattle.elf_table_symbols.specs.Symbols.{index_table_rules, place_rules, rest_rules, symbol_entry_rules, symbol_table_rules, IsReadable}
use Rattle.elf_table_symbols.specs.Symbols.{SymbolEntryValue, symbol_entry_in, symbols_in}
use Rattle.elf_table_symbols.specs.declared.symbols.Symbols.TheInside.{Inside}
use Rattle.elf_table_symbols.specs.declared.table_section.TableKind.TheVariants.{HashTable, SectionGroup, SymbolTable}
use Rattle.elf_table_symbols.specs.declared.table_section.TableKind.{TableKind}

-- What is known of a table that breaks none of its own rules.

-- the section that it links to is there
pub link_there : (kind : TableKind) (f : Sections) (i : ℕ) → FirstIn (own_rules kind f i) None → (section f i).sh_link < count f
unfolding own_rules
link_there kind f i own =
    elim (cases_lt (section f i).sh_link (count f)) [
      | inl there ↦ there
      | inr past ↦ absurd (own.1.1.1.0 _ (inl past, refl))
    ]

-- What a section's type says of the table in it.

-- a section that holds symbols holds a symbol table
pub symbols_kind : (type : ℕ) → IsSymbolType type → kind_of type ≡ Some SymbolTable
symbols_kind type (inl symtab) = rw symtab refl
symbols_kind type (inr dynsym) = rw dynsym refl

-- a section that holds a group or a hash table is of the one type that does
pub type_of_group : (type : ℕ) → kind_of type ≡ Some SectionGroup → type ≡ SHT_GROUP
type_of_group type is = grind (arith, common_steps)

pub type_of_hash : (type : ℕ) → kind_of type ≡ Some HashTable → type ≡ SHT_HASH
type_of_hash type is = grind (arith, common_steps)

pub length_symbols : (o : Order) (table names words : List ℕ) → length (symbols_in o table names words) ≡ entry_count table
unfolding symbols_in
length_symbols o table names words = length-map-range_with_len (symbol_entry_in o table names words) 0 (entry_count table)

pub symbol_get : (o : Order) (table names words : List ℕ) (j : ℕ) → j < entry_count table →
    get_or (symbols_in o table names words) j no_symbol_entry ≡ symbol_entry_in o table names words j
unfolding symbols_in
symbol_get o table names words j within =
    get_or-map-range_with_len (symbol_entry_in o table names words) 0 (entry_count table) j j no_symbol_entry within (zero-add j)

-- ---- a list of symbols, by its fields

-- a symbol of it is an entry of the content
pub symbol_within : (a : Inside) (symbols : List SymbolEntryValue) (j : ℕ) →
    symbols_in a.order a.table.now a.names.now a.words.now ≡ symbols → j < length symbols →
    j < entry_count a.table.now
symbol_within a symbols j is within = rw (← is, length_symbols a.order a.table.now a.names.now a.words.now) at within

pub symbol_at : (a : Inside) (symbols : List SymbolEntryValue) (j : ℕ) → symbols_in a.order a.table.now a.names.now a.words.now ≡ symbols →
    j < length symbols →
    get_or symbols j no_symbol_entry ≡ symbol_entry_in a.order a.table.now a.names.now a.words.now j
symbol_at a symbols j is within = rw (← is) (symbol_get a.order a.table.now a.names.now a.words.now j (symbol_within a symbols j is within))

-- ---- a table that breaks no rule

-- the section that it links to is there
pub sound_link : (f : Sections) (i : ℕ) → FirstIn (symbol_table_rules f i) None → (section f i).sh_link < count f
unfolding symbol_table_rules
sound_link f i sound = link_there SymbolTable f i (FirstIn-front (own_rules SymbolTable f i) _ sound)

-- rules 49 and 50, and 51 and 52, are kept
index_table_kept : (f : Sections) (i : ℕ) → FirstIn (symbol_table_rules f i) None →
    FirstIn (index_table_rules f i (index_table f i) (entry_count (symbol_parts f i).table) ++ place_rules (symbol_parts f i)) None
unfolding symbol_table_rules rest_rules
index_table_kept f i sound =
    let p = symbol_parts f i in
    FirstIn-after (symbol_entry_rules p) _
    (FirstIn-after (linked_string_rules p.names p.names_start) _ (FirstIn-after (own_rules SymbolTable f i) _ sound))

-- its index table has a word for each symbol
pub sound_words : (f : Sections) (i j : ℕ) → FirstIn (symbol_table_rules f i) None → index_table f i ≡ Some j →
    (section f j).sh_size ≡ WORD_SIZE * entry_count (symbol_parts f i).table
unfolding index_table_rules
sound_words f i j sound is =
    let kept = FirstIn-front (index_table_rules f i (index_table f i) (entry_count (symbol_parts f i).table)) _
    (index_table_kept f i sound) in
    let size = rw is at kept.1.0 in
    elim (cases_eq (section f j).sh_size (WORD_SIZE * entry_count (symbol_parts f i).table)) [
      | inl same ↦ same
      | inr other ↦ absurd (size _ (inl (other, refl)))
    ]

-- and is there where a symbol needs it
pub sound_index_table : (f : Sections) (i j : ℕ) → FirstIn (symbol_table_rules f i) None →
    let p = symbol_parts f i in j < entry_count p.table → (entry p.order p.table j).st_shndx ≡ SHN_XINDEX →
    (k : ℕ) × (index_table f i ≡ Some k)
unfolding place_rules
sound_index_table f i j sound within extended = some (index_table f i) refl where
  places : FirstIn (place_rules (symbol_parts f i)) None
  places = FirstIn-after (index_table_rules f i (index_table f i) (entry_count (symbol_parts f i).table)) _ (index_table_kept f i sound)

  some : (found : Option ℕ) → index_table f i ≡ found → (k : ℕ) × (index_table f i ≡ Some k)
  some None is = absurd (places.0 _ (j, within, inl (extended, is), refl))
  some (Some k) is = (k, is)

-- so each symbol's word can be read, in parts that are those of the table
abbrev pub ReadsWords : Sections → ℕ → SymbolPartsValue → Type 0
ReadsWords f i p = ((k : ℕ) → index_table f i ≡ Some k → length p.words ≡ (section f k).sh_size) → IsReadable p.order p.table p.words

reads_words : (f : Sections) (i : ℕ) → FirstIn (symbol_table_rules f i) None → ReadsWords f i (symbol_parts f i)
reads_words f i sound sized j within extended =
    let (k, is) = sound_index_table f i j sound within extended in
    let size = sized k is in
    let words = sound_words f i k sound is in
    omega arith

pub readable : (f : Sections) (i : ℕ) (p : SymbolPartsValue) → FirstIn (symbol_table_rules f i) None → p ≡ symbol_parts f i →
    ReadsWords f i p
readable f i p sound same = subst (ReadsWords f i) (sym same) (reads_words f i sound)
