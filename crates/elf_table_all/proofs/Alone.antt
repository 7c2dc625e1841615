-- The verdict on a table, of two files that have the same headers. The rules of each kind of table are written as a function of the
-- contents that they look at, so equal contents give equal verdicts, one content after the other.
use Rattle.std.proofs.Common.{List, None, Option, Some, [], get_or, inl, inr, length, refl, subst, ◌*◌, ◌++◌, ◌+◌, ◌<◌, ◌∷◌, ◌≡◌, ◌≤◌, ℕ}
use Rattle.std.specs.Prelude.{map, ◌≢◌, ◌⊎◌}
use Rattle.elf_field.specs.Abi.{DYN_SIZE, D_UN_AT, GRP_COMDAT, R_INFO_AT, SHT_NOTE, SH_INFO_AT, SH_SIZE_AT, WORD_SIZE}
use Rattle.elf_field.specs.Abi.{relocation_size}
use Rattle.elf_field.specs.declared.ehdr.Ehdr.{Ehdr}
use Rattle.elf_field.specs.declared.shdr.Shdr.{Shdr}
use Rattle.elf_image_rules.specs.Rows.{AtEntry, FirstIn, Ruled, When, rule}
use Rattle.elf_table_all.specs.Tables.{AreAlike, IsLookedAt, linked_of, rules_of_kind, table_rules}
use Rattle.elf_table_hash.specs.HashRules.{HashPartsValue, chain_rules, hash_rules, hash_table_rules, word_rules}
use Rattle.elf_table_hash.specs.HashTable.{symbol_names_of, words_in}
use Rattle.elf_table_lists.specs.Dynamic.{IsDynamicStringPastEnd, IsNullEntry, dynamic_entry, dynamic_entry_count, dynamic_rules}
use Rattle.elf_table_lists.specs.Dynamic.{dynamic_section_rules}
use Rattle.elf_table_lists.specs.Groups.{IsNamedBefore, IsUnfit, empty_group, group_flags, group_front_rules, group_member_rules}
use Rattle.elf_table_lists.specs.Groups.{group_rules, group_section_rules, member, member_count}
use Rattle.elf_table_lists.specs.Notes.{note_rules, note_section_rules}
use Rattle.elf_table_lists.specs.Relocations.{has_addends, relocation_count, relocation_entry_rules, relocation_in}
use Rattle.elf_table_lists.specs.Relocations.{relocation_section_rules, wrong_target}
use Rattle.elf_table_symbols.specs.Sections.{Sections, count, header_at, kind_of, order, own_rules, section, wrong_table_type}
use Rattle.elf_table_symbols.specs.Symbols.{SymbolEntryValue, SymbolPartsValue, entry_count, index_table, index_table_rules, index_words}
use Rattle.elf_table_symbols.specs.Symbols.{index_words_start, linked_string_rules, rest_rules, symbol_table_rules, symbols_in, symbols_of}
use Rattle.elf_table_symbols.specs.declared.table_section.TableKind.TheVariants.{DynamicArray, HashTable, NoteSection, RelocationTable}
use Rattle.elf_table_symbols.specs.declared.table_section.TableKind.TheVariants.{SectionGroup, SymbolTable}
use Rattle.elf_table_symbols.specs.declared.table_section.TableKind.{TableKind}

-- a file of these headers, with contents and without
abbrev file : Ehdr → List Shdr → List (List ℕ) → Sections
file h hs cs = record { header = h; headers = hs; contents = cs }

abbrev bare : Ehdr → List Shdr → Sections
bare h hs = file h hs []

abbrev words_of : Ehdr → List Shdr → List (List ℕ) → ℕ → List ℕ
words_of h hs cs i = index_words (file h hs cs) (index_table (bare h hs) i)

-- ---- the rules by the contents

abbrev parts_by : Sections → ℕ → List ℕ → List ℕ → List ℕ → SymbolPartsValue
parts_by f i table names words =
    let s = section f i in
    record {
      order = order f;
      header = header_at f i;
      info = s.sh_info;
      table = table;
      start = s.sh_offset;
      names = names;
      names_start = (section f s.sh_link).sh_offset;
      index_table = index_table f i;
      words = words;
      words_start = index_words_start f (index_table f i);
      sections = count f;
    }

abbrev symbols_by : Sections → ℕ → List ℕ → List ℕ → List ℕ → List {1} (Ruled ℕ)
symbols_by f i table names words = own_rules SymbolTable f i ++ rest_rules f i (parts_by f i table names words)

abbrev relocations_by : Sections → ℕ → List ℕ → List ℕ → List ℕ → List ℕ → List {1} (Ruled ℕ)
relocations_by f i own table names words =
    let s = section f i in
    let addends = has_addends s.sh_type in
    own_rules RelocationTable f i ++ (symbols_by f s.sh_link table names words
    ++ (rule 53 (wrong_target f i)
    ∷ rule 54 (AtEntry (relocation_count addends own) (λ j. entry_count table ≤ (relocation_in addends (order f) own j).symbol)
    (λ j. s.sh_offset + relocation_size addends * j + R_INFO_AT)) ∷ []))

abbrev group_by : Sections → ℕ → List ℕ → List ℕ → List ℕ → List ℕ → List {1} (Ruled ℕ)
group_by f i own table names words =
    let s = section f i in
    let o = order f in
    own_rules SectionGroup f i ++ (symbols_by f s.sh_link table names words
    ++ ((rule 55 (empty_group f i)
    ∷ rule 56 (When ((group_flags o own ≢ 0) × (group_flags o own ≢ GRP_COMDAT)) s.sh_offset)
    ∷ rule 57 (When ((s.sh_info ≡ 0) ⊎ (entry_count table ≤ s.sh_info)) (header_at f i + SH_INFO_AT)) ∷ [])
    ++ (rule 58 (AtEntry (member_count own) (λ j. IsUnfit f i (member o own j) ⊎ IsNamedBefore o own j (member o own j))
    (λ j. s.sh_offset + WORD_SIZE * (j + 1))) ∷ [])))

abbrev notes_by : Sections → ℕ → List ℕ → List {1} (Ruled ℕ)
notes_by f i own = rule 40 (wrong_table_type (λ type. type ≡ SHT_NOTE) f i) ∷ note_rules (order f) own (section f i).sh_offset

abbrev dynamic_by : Sections → ℕ → List ℕ → List ℕ → List {1} (Ruled ℕ)
dynamic_by f i own strings =
    let s = section f i in
    let o = order f in
    own_rules DynamicArray f i ++ (linked_string_rules strings (section f s.sh_link).sh_offset
    ++ (rule 63 (When ((j : ℕ) → j < dynamic_entry_count own → ¬ IsNullEntry (dynamic_entry o own j)) (header_at f i + SH_SIZE_AT))
    ∷ rule 64 (AtEntry (dynamic_entry_count own)
    (λ j. ((k : ℕ) → k ≤ j → ¬ IsNullEntry (dynamic_entry o own k)) × IsDynamicStringPastEnd (length strings) (dynamic_entry o own j))
    (λ j. s.sh_offset + DYN_SIZE * j + D_UN_AT)) ∷ []))

abbrev hash_by : Sections → ℕ → List ℕ → List ℕ → List ℕ → List ℕ → List {1} (Ruled ℕ)
hash_by f i own table names words =
    let s = section f i in
    let p : HashPartsValue = record {
      header = header_at f i;
      size = s.sh_size;
      words = words_in (order f) own;
      start = s.sh_offset;
      names = map (λ (symbol : SymbolEntryValue). symbol.name) (symbols_in (order f) table names words);
    } in
    own_rules HashTable f i ++ (symbols_by f s.sh_link table names words ++ (word_rules p ++ chain_rules p))

-- ---- equal contents

-- the content of section j, as far as it is looked at, is the same in both files
abbrev Same : Ehdr → List Shdr → List (List ℕ) → List (List ℕ) → ℕ → Type 0
Same h hs cs ds i = (j : ℕ) → IsLookedAt (bare h hs) i j → get_or cs j [] ≡ get_or ds j []

-- the words of an index table
words_same : (h : Ehdr) (hs : List Shdr) (cs ds : List (List ℕ)) (table : Option ℕ) →
    ((j : ℕ) → table ≡ Some j → get_or cs j [] ≡ get_or ds j []) → index_words (file h hs cs) table ≡ index_words (file h hs ds) table
words_same h hs cs ds None same = refl
words_same h hs cs ds (Some j) same = same j refl

-- a statement about four contents
over : (P : List ℕ → List ℕ → List ℕ → List ℕ → Type 0) (a b c d a2 b2 c2 d2 : List ℕ) → a ≡ a2 → b ≡ b2 → c ≡ c2 → d ≡ d2 →
    P a b c d → P a2 b2 c2 d2
over P a b c d a2 b2 c2 d2 one two three four is =
    subst (λ (x : List ℕ). P a2 b2 c2 x) four (subst (λ (x : List ℕ). P a2 b2 x d) three
    (subst (λ (x : List ℕ). P a2 x c d) two (subst (λ (x : List ℕ). P x b c d) one is)))

-- of the table in a section, and the symbol table that it links to
linked_over : (h : Ehdr) (hs : List Shdr) (cs ds : List (List ℕ)) (i : ℕ) → Same h hs cs ds i →
    (P : List ℕ → List ℕ → List ℕ → List ℕ → Type 0) →
    (let link = linked_of (bare h hs) i in let next = linked_of (bare h hs) link in
    P (get_or cs i []) (get_or cs link []) (get_or cs next []) (words_of h hs cs link)
    → P (get_or ds i []) (get_or ds link []) (get_or ds next []) (words_of h hs ds link))
linked_over h hs cs ds i same P =
    let link = linked_of (bare h hs) i in
    let next = linked_of (bare h hs) link in
    over P _ _ _ _ _ _ _ _ (same i (inl refl)) (same link (inr (inl refl))) (same next (inr (inr (inl refl))))
    (words_same h hs cs ds (index_table (bare h hs) link) (λ j is. same j (inr (inr (inr (inr is))))))

-- the statement on each kind of table
abbrev Alike : (Sections → ℕ → List {1} (Ruled ℕ)) → Type 0
Alike rules = (h : Ehdr) (hs : List Shdr) (cs ds : List (List ℕ)) (i : ℕ) (x : Option (ℕ × ℕ)) → Same h hs cs ds i →
    FirstIn (rules (file h hs cs) i) x → FirstIn (rules (file h hs ds) i) x

symbols_alike : Alike symbol_table_rules
unfolding symbol_table_rules own_rules rest_rules index_table_rules index_table
symbols_alike h hs cs ds i x same =
    over (λ own strings rest words. FirstIn (symbols_by (bare h hs) i own strings words) x) _ _ [] _ _ _ [] _
    (same i (inl refl)) (same (linked_of (bare h hs) i) (inr (inl refl))) refl
    (words_same h hs cs ds (index_table (bare h hs) i) (λ j is. same j (inr (inr (inr (inl is))))))

relocations_alike : Alike relocation_section_rules
unfolding relocation_section_rules relocation_entry_rules symbol_table_rules own_rules rest_rules index_table_rules index_table
relocations_alike h hs cs ds i x same =
    linked_over h hs cs ds i same (λ own table names words. FirstIn (relocations_by (bare h hs) i own table names words) x)

group_alike : Alike group_section_rules
unfolding group_section_rules group_rules group_front_rules group_member_rules symbol_table_rules own_rules rest_rules index_table_rules
    index_table
group_alike h hs cs ds i x same =
    linked_over h hs cs ds i same (λ own table names words. FirstIn (group_by (bare h hs) i own table names words) x)

notes_alike : Alike note_section_rules
unfolding note_section_rules
notes_alike h hs cs ds i x same = subst (λ (own : List ℕ). FirstIn (notes_by (bare h hs) i own) x) (same i (inl refl))

dynamic_alike : Alike dynamic_section_rules
unfolding dynamic_section_rules dynamic_rules own_rules
dynamic_alike h hs cs ds i x same =
    linked_over h hs cs ds i same (λ own strings next words. FirstIn (dynamic_by (bare h hs) i own strings) x)

hash_alike : Alike hash_table_rules
unfolding hash_table_rules hash_rules symbol_names_of symbols_of symbol_table_rules own_rules rest_rules index_table_rules index_table
hash_alike h hs cs ds i x same =
    linked_over h hs cs ds i same (λ own table names words. FirstIn (hash_by (bare h hs) i own table names words) x)

kind_alike : (kind : Option TableKind) → Alike (rules_of_kind kind)
kind_alike None = λ h hs cs ds i x same run. run
kind_alike (Some SymbolTable) = symbols_alike
kind_alike (Some RelocationTable) = relocations_alike
kind_alike (Some SectionGroup) = group_alike
kind_alike (Some NoteSection) = notes_alike
kind_alike (Some DynamicArray) = dynamic_alike
kind_alike (Some HashTable) = hash_alike

-- two files with the same headers
pub same_headers : (h : Ehdr) (hs : List Shdr) (cs ds : List (List ℕ)) (i : ℕ) (x : Option (ℕ × ℕ)) → Same h hs cs ds i →
    FirstIn (table_rules (file h hs cs) i) x → FirstIn (table_rules (file h hs ds) i) x
unfolding table_rules
same_headers h hs cs ds i x same = kind_alike (kind_of (section (bare h hs) i).sh_type) h hs cs ds i x same

-- so of two files that are alike
pub looked_at : (f g : Sections) (i : ℕ) (x : Option (ℕ × ℕ)) → AreAlike f g i → FirstIn (table_rules f i) x →
    FirstIn (table_rules g i) x
unfolding index_table
looked_at f g i x alike run =
    subst (λ (h : Ehdr). FirstIn (table_rules (file h g.headers g.contents) i) x) alike.header
    (subst (λ (hs : List Shdr). FirstIn (table_rules (file f.header hs g.contents) i) x) alike.headers
    (same_headers f.header f.headers f.contents g.contents i x alike.contents run))
