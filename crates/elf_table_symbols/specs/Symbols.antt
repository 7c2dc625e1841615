-- The symbols of a symbol table, as values. (gABI chapter 4, Symbol Table.)
use Rattle.std.specs.Prelude.{◌≡◌, ℕ, ◌<◌, ◌==◌, ◌&&◌, Option, None, Some, List, [], position, ◌∷◌, ◌≢◌, ◌+◌, ◌*◌, ◌/◌, ◌≤◌, ◌⊎◌, ◌++◌}
use Rattle.std.specs.Prelude.{length, slice_index, ◌%◌, nat_lt, if◌then◌else◌, map, get_or}
use Rattle.std.specs.List.{range_with_len}
use Rattle.elf_extent.specs.Extent.{IsLowest}
use Rattle.elf_field.specs.Abi.{SHT_SYMTAB_SHNDX, SHT_STRTAB, SHN_LORESERVE, SHN_XINDEX, SH_ENTSIZE_AT, SH_INFO_AT, SH_LINK_AT, SH_SIZE_AT}
use Rattle.elf_field.specs.Abi.{STB_LOCAL, ST_INFO_AT, ST_NAME_AT, ST_SHNDX_AT, SYM_SIZE, WORD_SIZE, SHN_ABS, SHN_COMMON, SHN_UNDEF}
use Rattle.elf_field.specs.Entries.{sym_at, word_at}
use Rattle.elf_field.specs.declared.number.Order.{Order}
use Rattle.elf_field.specs.declared.shdr.Shdr.{Shdr}
use Rattle.elf_field.specs.declared.sym.Sym.{Sym}
use Rattle.elf_image_rules.specs.Rows.{Row, Ruled, rule, AtEntry, Either, OfSome, When, FirstIn}
use Rattle.elf_image_rules.specs.Rules.{UnclosedAt}
use Rattle.elf_field.specs.Strings.{string}
use Rattle.elf_table_symbols.specs.Sections.{Below, Sections, content, section, count, header_at, order, wrong_table_type, own_rules}
use Rattle.elf_table_symbols.specs.Sections.{IsSymbolType, kind_of}
use Rattle.elf_table_symbols.specs.Slots.{IsKept}
use Rattle.elf_table_symbols.specs.declared.slots.TableFault.{TableFault}
use Rattle.elf_table_symbols.specs.declared.index_tables.IndexTables.{IndexTables}
use Rattle.elf_table_symbols.specs.declared.symbol_rules.SymbolRule.TheVariants.{MisplacedBinding, SymbolNamePastEnd, WrongSymbolSection}
use Rattle.elf_table_symbols.specs.declared.symbol_rules.SymbolRule.{SymbolRule}
use Rattle.elf_table_symbols.specs.declared.symbols.Place.TheVariants.{Undefined, Absolute, Common, Reserved, Section}
use Rattle.elf_table_symbols.specs.declared.symbols.Place.{Place}
use Rattle.elf_table_symbols.specs.declared.table_section.TableKind.TheVariants.{SymbolTable}
use Rattle.elf_table_symbols.specs.declared.verdicts.SymbolVerdicts.TheVariants.{All, Slots, Unknown}
use Rattle.elf_table_symbols.specs.declared.verdicts.SymbolVerdicts.{SymbolVerdicts}
use Rattle.elf_table_symbols.specs.declared.symbol_parts.SymbolParts as declared

-- Index tables: the section indexes that the symbols of a table cannot hold themselves.
-- (gABI chapter 4, Sections: SHT_SYMTAB_SHNDX.)

-- section j is an index table of the symbol table in section i
abbrev pub IsIndexTable : Sections → ℕ → ℕ → Type 0
IsIndexTable f i j = ((section f j).sh_type ≡ SHT_SYMTAB_SHNDX) × ((section f j).sh_link ≡ i)

-- and a second one: another is before it
abbrev pub IsSecondIndexTable : Sections → ℕ → ℕ → Type 0
IsSecondIndexTable f i j = IsIndexTable f i j × ((k : ℕ) × (k < j) × IsIndexTable f i k)

-- the first one
unfoldable pub index_table : Sections → ℕ → Option ℕ
index_table f i = position (λ (s : Shdr). (s.sh_type == SHT_SYMTAB_SHNDX) && (s.sh_link == i)) f.headers

-- its words; none where there is no index table
abbrev pub index_words : Sections → Option ℕ → List ℕ
index_words f None = []
index_words f (Some j) = content f j

-- among the sections below `end`, these are the first and the second index table of the symbol table in section i
pub record AreIndexTables (f : Sections) (i end : ℕ) (tables : IndexTables) : Type 0 where
  pub first : IsLowest (Below end (IsIndexTable f i)) tables.first
  pub second : IsLowest (Below end (IsSecondIndexTable f i)) tables.second

-- with one more noted, of a higher index
abbrev pub noted : IndexTables → ℕ → IndexTables
noted tables j = note tables.first tables.second where
  note : Option ℕ → Option ℕ → IndexTables
  note None second = record { first = Some j; second = second }
  note (Some first) None = record { first = Some first; second = Some j }
  note (Some first) (Some second) = record { first = Some first; second = Some second }

-- What the rules of a symbol table look at, beside its own section header: its content, the string table that it links to, and
-- its index table.

pub record SymbolPartsValue : Type 0 where
  pub order : Order
  -- the offset of the section header, and its sh_info
  pub header : ℕ
  pub info : ℕ
  -- the content and its offset; that of the string table; that of the index table
  pub table : List ℕ
  pub start : ℕ
  pub names : List ℕ
  pub names_start : ℕ
  pub index_table : Option ℕ
  pub words : List ℕ
  pub words_start : ℕ
  -- how many section headers there are
  pub sections : ℕ

-- the offset of an index table's content
abbrev pub index_words_start : Sections → Option ℕ → ℕ
index_words_start f None = 0
index_words_start f (Some j) = (section f j).sh_offset

-- those of the symbol table in section i
abbrev pub symbol_parts : Sections → ℕ → SymbolPartsValue
symbol_parts f i =
    let s = section f i in
    record {
      order = order f;
      header = header_at f i;
      info = s.sh_info;
      table = content f i;
      start = s.sh_offset;
      names = content f s.sh_link;
      names_start = (section f s.sh_link).sh_offset;
      index_table = index_table f i;
      words = index_words f (index_table f i);
      words_start = index_words_start f (index_table f i);
      sections = count f;
    }

-- those that the code has gathered
abbrev pub parts_value : declared.SymbolParts → SymbolPartsValue
parts_value p = record {
  order = p.order;
  header = p.header;
  info = p.info;
  table = p.table.now;
  start = p.start;
  names = p.names.now;
  names_start = p.names_start;
  index_table = p.index_table;
  words = p.words.now;
  words_start = p.words_start;
  sections = p.sections;
}

-- Rules 40 and 41: a string table by itself, and the strings in it. (gABI chapter 4, String Table.)

-- rule 41: a string table that is not empty begins or ends with a byte that isn't 0
abbrev pub unclosed_string_table : List ℕ → ℕ → Row ℕ
unclosed_string_table table start = UnclosedAt table start

-- rule 41 alone, of a string table at `start` that another table links to
unfoldable pub linked_string_rules : List ℕ → ℕ → List {1} (Ruled ℕ)
linked_string_rules table start = rule 41 (unclosed_string_table table start) ∷ []

unfoldable pub string_table_rules : Sections → ℕ → List {1} (Ruled ℕ)
string_table_rules f i =
    rule 40 (wrong_table_type (λ type. type ≡ SHT_STRTAB) f i) ∷ linked_string_rules (content f i) (section f i).sh_offset

-- Rules 45 to 52: the symbols of a symbol table, and its index table. (gABI chapter 4, Symbol Table; Sections: sh_info,
-- SHT_SYMTAB_SHNDX.)

-- entry j of a symbol table's content, and how many there are
unfoldable pub entry : Order → List ℕ → ℕ → Sym
entry o table j = sym_at o table (SYM_SIZE * j)

abbrev pub entry_count : List ℕ → ℕ
entry_count table = length table / SYM_SIZE

-- word j of an index table's content
unfoldable pub word : Order → List ℕ → ℕ → ℕ
word o words j = word_at o words (WORD_SIZE * j)

abbrev pub entry_binding : Sym → ℕ
entry_binding symbol = symbol.st_info / 16

-- rule 45: there is no entry 0, or a byte of it isn't 0
abbrev pub symbol_0_not_null : SymbolPartsValue → Row ℕ
symbol_0_not_null p = Either (
    When (entry_count p.table ≡ 0) (p.header + SH_SIZE_AT) ∷
    AtEntry SYM_SIZE (λ k. (0 < entry_count p.table) × (slice_index p.table k ≢ 0)) (λ k. p.start + k) ∷ [])

-- rule 46: sh_info, the index of the first symbol that is not local, is 0 or above the number of symbols
abbrev pub wrong_local_count : SymbolPartsValue → Row ℕ
wrong_local_count p = When ((p.info ≡ 0) ⊎ (entry_count p.table < p.info)) (p.header + SH_INFO_AT)

-- ---- rules on one symbol

-- rule 47: a symbol below that index is not local, or one from it on is
abbrev pub IsMisplacedBinding : ℕ → Sym → ℕ → Type 0
IsMisplacedBinding info symbol j =
    ((j < info) × (entry_binding symbol ≢ STB_LOCAL)) ⊎ ((info ≤ j) × (entry_binding symbol ≡ STB_LOCAL))

abbrev pub misplaced_binding : SymbolPartsValue → Row ℕ
misplaced_binding p =
    AtEntry (entry_count p.table) (λ j. IsMisplacedBinding p.info (entry p.order p.table j) j) (λ j. p.start + SYM_SIZE * j + ST_INFO_AT)

-- rule 48: a symbol's name begins after the string table; 0, for no name, needs no table
abbrev pub IsSymbolNamePastEnd : ℕ → Sym → Type 0
IsSymbolNamePastEnd size symbol = (symbol.st_name ≢ 0) × (size ≤ symbol.st_name)

abbrev pub symbol_name_past_end : SymbolPartsValue → Row ℕ
symbol_name_past_end p =
    AtEntry (entry_count p.table) (λ j. IsSymbolNamePastEnd (length p.names) (entry p.order p.table j))
    (λ j. p.start + SYM_SIZE * j + ST_NAME_AT)

-- rule 49: the symbol table has a second index table
abbrev pub second_index_table : Sections → ℕ → Row ℕ
second_index_table f i = AtEntry (count f) (IsSecondIndexTable f i) (λ j. header_at f j + SH_LINK_AT)

-- rule 50: the index table, section j, has not one word of four bytes for each symbol, or its sh_entsize isn't 4
abbrev pub wrong_index_table_size : Sections → ℕ → ℕ → Row ℕ
wrong_index_table_size f symbols j =
    let s = section f j in
    Either (
    When (s.sh_size ≢ WORD_SIZE * symbols) (header_at f j + SH_SIZE_AT) ∷
    When (s.sh_entsize ≢ WORD_SIZE) (header_at f j + SH_ENTSIZE_AT) ∷ [])

-- rule 51: a symbol's section is in an index table that is not there, or there is no such section
abbrev pub IsWrongSymbolSection : Option ℕ → ℕ → Sym → Type 0
IsWrongSymbolSection table sections symbol =
    ((symbol.st_shndx ≡ SHN_XINDEX) × (table ≡ None)) ⊎ ((symbol.st_shndx < SHN_LORESERVE) × (sections ≤ symbol.st_shndx))

abbrev pub wrong_symbol_section : SymbolPartsValue → Row ℕ
wrong_symbol_section p =
    AtEntry (entry_count p.table) (λ j. IsWrongSymbolSection p.index_table p.sections (entry p.order p.table j))
    (λ j. p.start + SYM_SIZE * j + ST_SHNDX_AT)

-- rule 52: a word of the index table isn't 0 though the symbol needs none, or it is none of a section that needs one
abbrev pub IsWrongIndexWord : ℕ → Sym → ℕ → Type 0
IsWrongIndexWord sections symbol index =
    ((symbol.st_shndx ≢ SHN_XINDEX) × (index ≢ 0)) ⊎
    ((symbol.st_shndx ≡ SHN_XINDEX) × ((index < SHN_LORESERVE) ⊎ (sections ≤ index)))

abbrev pub wrong_index_word : SymbolPartsValue → Row ℕ
wrong_index_word p =
    OfSome p.index_table (λ _. AtEntry (entry_count p.table)
    (λ j. IsWrongIndexWord p.sections (entry p.order p.table j) (word p.order p.words j)) (λ j. p.words_start + WORD_SIZE * j))

-- what breaks each rule on one symbol, symbol j
abbrev pub BreaksSymbolEntry : SymbolRule → SymbolPartsValue → Sym → ℕ → Type 0
BreaksSymbolEntry MisplacedBinding p symbol j = IsMisplacedBinding p.info symbol j
BreaksSymbolEntry SymbolNamePastEnd p symbol j = IsSymbolNamePastEnd (length p.names) symbol
BreaksSymbolEntry WrongSymbolSection p symbol j = IsWrongSymbolSection p.index_table p.sections symbol

-- the offset in the symbol of the field at which each of them is broken
abbrev pub symbol_field : SymbolRule → ℕ
symbol_field MisplacedBinding = ST_INFO_AT
symbol_field SymbolNamePastEnd = ST_NAME_AT
symbol_field WrongSymbolSection = ST_SHNDX_AT

-- ---- the runs of rules

-- rules 45 to 48
unfoldable pub symbol_entry_rules : SymbolPartsValue → List {1} (Ruled ℕ)
symbol_entry_rules p =
    rule 45 (symbol_0_not_null p) ∷
    rule 46 (wrong_local_count p) ∷
    rule 47 (misplaced_binding p) ∷
    rule 48 (symbol_name_past_end p) ∷ []

-- rules 49 and 50, of a table of so many symbols
unfoldable pub index_table_rules : Sections → ℕ → Option ℕ → ℕ → List {1} (Ruled ℕ)
index_table_rules f i table symbols =
    rule 49 (second_index_table f i) ∷
    rule 50 (OfSome table (wrong_index_table_size f symbols)) ∷ []

-- rules 51 and 52
unfoldable pub place_rules : SymbolPartsValue → List {1} (Ruled ℕ)
place_rules p = rule 51 (wrong_symbol_section p) ∷ rule 52 (wrong_index_word p) ∷ []

-- those after a symbol table's own rules
unfoldable pub rest_rules : Sections → ℕ → SymbolPartsValue → List {1} (Ruled ℕ)
rest_rules f i p =
    linked_string_rules p.names p.names_start ++
    (symbol_entry_rules p ++ (index_table_rules f i p.index_table (entry_count p.table) ++ place_rules p))

-- all rules of the symbol table in section i, in the order in which they are tested
unfoldable pub symbol_table_rules : Sections → ℕ → List {1} (Ruled ℕ)
symbol_table_rules f i = own_rules SymbolTable f i ++ rest_rules f i (symbol_parts f i)

pub record SymbolEntryValue : Type 0 where
  pub name : List ℕ
  pub binding : ℕ
  pub symbol_type : ℕ
  pub other : ℕ
  pub place : Place
  pub value : ℕ
  pub size : ℕ

-- where a symbol of this st_shndx is defined, with this word of the index table
abbrev pub place_of : ℕ → ℕ → Place
place_of index extended =
    if index == SHN_UNDEF then Undefined
    else (if index == SHN_ABS then Absolute
    else (if index == SHN_COMMON then Common
    else (if index == SHN_XINDEX then Section extended
    else (if nat_lt index SHN_LORESERVE then Section index else Reserved index))))

-- symbol j
unfoldable pub symbol_entry_in : Order → List ℕ → List ℕ → List ℕ → ℕ → SymbolEntryValue
symbol_entry_in o table names words j =
    let e = entry o table j in
    record {
      name = string names e.st_name;
      binding = entry_binding e;
      symbol_type = e.st_info % 16;
      other = e.st_other;
      place = place_of e.st_shndx (word o words j);
      value = e.st_value;
      size = e.st_size;
    }

unfoldable pub symbols_in : Order → List ℕ → List ℕ → List ℕ → List SymbolEntryValue
symbols_in o table names words = map (symbol_entry_in o table names words) (range_with_len 0 (entry_count table))

-- the symbols of the symbol table in section i
unfoldable pub symbols_of : Sections → ℕ → List SymbolEntryValue
symbols_of f i = let p = symbol_parts f i in symbols_in p.order p.table p.names p.words

-- the index table has a word for each symbol that needs one
abbrev pub IsReadable : Order → List ℕ → List ℕ → Type 0
IsReadable o table words = (j : ℕ) → j < entry_count table → (entry o table j).st_shndx ≡ SHN_XINDEX →
    WORD_SIZE * j + WORD_SIZE ≤ length words

-- The verdicts on symbol tables that are known when a table that links to one is validated.

-- for each of the first `end` sections that holds a symbol table the first rule that it breaks, with its lowest offset
pub record AreSymbolVerdicts (f : Sections) (end : ℕ) (verdicts : List (Option (ℕ × ℕ))) : Type 0 where
  pub long : length verdicts ≡ end
  pub right : (i : ℕ) → i < end → kind_of (section f i).sh_type ≡ Some SymbolTable →
      FirstIn (symbol_table_rules f i) (get_or verdicts i None)

-- each slot of a symbol table that has a verdict has the right one, of slots for the sections from `first` on
abbrev pub AreSlotVerdicts : Sections → ℕ → List TableFault → Type 0
AreSlotVerdicts f first slots = (i : ℕ) (found : Option (ℕ × ℕ)) → i < count f → IsSymbolType (section f i).sh_type →
    IsKept first slots i found → FirstIn (symbol_table_rules f i) found

-- each that is known is the first rule that the symbol table breaks, with its lowest offset
abbrev pub AreKnown : Sections → SymbolVerdicts → Type 0
AreKnown f (All verdicts) = AreSymbolVerdicts f (count f) verdicts.now
AreKnown f (Slots first slots) = AreSlotVerdicts f first slots.now
AreKnown f Unknown = Unit {0}
