-- Entries that the library for C reads of tables are those of the file.
use Rattle.std.proofs.Common.{◌≡◌, ◌<◌, ◌≤◌, ℕ, List, true, false, arith, get_or, length, sym, zero-add, ◌∙◌, Option, ap, subst, ◌+◌, None}
use Rattle.std.proofs.Common.{drop, zero, suc, inl, inr, refl, ◌*◌, ◌++◌, ◌↔◌, Some, add-one, ◌-◌}
use Rattle.std.specs.List.{before_first, position_or_len}
use Rattle.std.proofs.lemmas.Bool.{false_from_ne_true, cases_eq, cases_lt}
use Rattle.std.proofs.lemmas.Bool.Decides.{Decides-int_eq}
use Rattle.std.proofs.lemmas.List.{get_or-take, length-take, length-take-le}
use Rattle.std.proofs.lemmas.List.FromFn.{get_or-map-range_with_len, length-map-range_with_len}
use Rattle.std.proofs.lemmas.List.Sums.{position_or_len_is}
use Rattle.std.specs.Prelude.{slice_get, unwrap_or}
use Rattle.std.proofs.lemmas.Option.{slice_get-get_or, slice_get_within, unwrap_or-slice_get}
use Rattle.elf_c.proofs.ReadFiles.{content_listed}
use Rattle.elf_c.proofs.ReadTables.{content_long, table_content, table_order, table_sound, table_strings, table_linked, index_bytes}
use Rattle.elf_c.proofs.ReadTables.{index_words_long, table_kind}
use Rattle.elf_c.specs.Files.{order_named}
use Rattle.elf_c.specs.Tables.{entries_before_null, IsTableOf, length_of_table, slot_bytes, HasSymbol, no_note_value, NoteStandsAt}
use Rattle.elf_c.specs.Tables.{whole_notes}
use Rattle.elf_c.specs.declared.shapes.Note.{Note}
use Rattle.elf_c.specs.declared.shapes.Table.{Table}
use Rattle.elf_c_parts.specs.declared.room.Slot.{Slot}
use Rattle.elf_extent.specs.declared.extent.Extent.{Extent}
use Rattle.elf_field.proofs.RecordTableLaws.{record_of_part}
use Rattle.elf_field.specs.Abi.{DT_NULL, SHN_XINDEX, WORD_SIZE, NHDR_SIZE, N_DESCSZ_AT, N_NAMESZ_AT}
use Rattle.elf_field.specs.Entries.{word_at}
use Rattle.elf_field.specs.laws.Entries.{word_laws}
use Rattle.elf_field.specs.declared.dynamic.Dyn.{Dyn}
use Rattle.elf_field.specs.declared.number.Order.{Order}
use Rattle.elf_image_rules.proofs.Public.{FirstIn-front, FirstIn-after}
use Rattle.elf_image_rules.specs.Rows.{FirstIn}
use Rattle.elf_image_rules.specs.Tables.{bytes_in}
use Rattle.elf_table_all.specs.Tables.{dynamic_strings}
use Rattle.elf_table_hash.proofs.Public.{names_of_section, sound_hash_type, valid_in_section}
use Rattle.elf_table_hash.specs.HashRules.{hash_table_rules}
use Rattle.elf_table_hash.specs.HashTable.{Valid, hash_in, names_in, symbol_names_of}
use Rattle.elf_table_hash.specs.HashView.{hash_of_section}
use Rattle.elf_table_lists.proofs.Public.{length_relocations, relocation_get, no_note_entry, note_entry}
use Rattle.elf_table_lists.specs.Dynamic.{IsNullEntry, dynamic_entries, dynamic_entry, dynamic_entry_count, is_null_entry, no_dynamic_entry}
use Rattle.elf_table_lists.specs.Dynamic.{dynamic_array_of, dynamic_section_rules}
use Rattle.elf_table_lists.specs.Notes.{NoteValue, desc_start, note_at, note_end, note_offset, notes_in, note_rules, note_section_rules}
use Rattle.elf_table_lists.specs.Notes.{AreNotesWhole, descsz, name_start, namesz, notes_of, padded}
use Rattle.elf_table_lists.specs.Relocations.{has_addends, no_relocation_entry, relocation_count, relocation_in, relocations_in}
use Rattle.elf_table_lists.specs.Relocations.{relocations_of}
use Rattle.elf_table_lists.specs.declared.relocations.Relocation.{Relocation}
use Rattle.elf_table_symbols.proofs.Public.{link_there, sound_link, length_symbols, symbol_get}
use Rattle.elf_table_symbols.specs.Sections.{own_rules, order, section, sections_in, Sections, content, count}
use Rattle.elf_table_symbols.specs.SymbolView.{no_symbol_entry}
use Rattle.elf_table_symbols.specs.Symbols.{symbol_table_rules, index_table, index_words, linked_string_rules, symbol_parts, entry}
use Rattle.elf_table_symbols.specs.Symbols.{entry_count, index_table_rules, place_rules, rest_rules, symbol_entry_rules, SymbolEntryValue}
use Rattle.elf_table_symbols.specs.Symbols.{symbol_entry_in, symbols_in, symbols_of}
use Rattle.elf_table_symbols.specs.declared.table_section.TableKind.TheVariants.{DynamicArray, RelocationTable, HashTable, SymbolTable}
use Rattle.elf_table_symbols.specs.declared.table_section.TableKind.TheVariants.{NoteSection}
use Rattle.elf_table_symbols.specs.declared.table_section.TableKind.{TableKind}

-- The index of the first DT_NULL, or the number of entries without one, is the length of the dynamic array (`length_before_null`). Entry j
-- of the array is entry j of the content (`array_get`). Both follow from where `position_or_len` finds the first DT_NULL.

length_dynamic : (o : Order) (table : List ℕ) (n : ℕ) → length (dynamic_entries o table n) ≡ n
unfolding dynamic_entries
length_dynamic o table n = length-map-range_with_len (dynamic_entry o table) 0 n

dynamic_get : (o : Order) (table : List ℕ) (n j : ℕ) → j < n →
    get_or (dynamic_entries o table n) j no_dynamic_entry ≡ dynamic_entry o table j
unfolding dynamic_entries
dynamic_get o table n j within = get_or-map-range_with_len (dynamic_entry o table) 0 n j j no_dynamic_entry within (zero-add j)

-- the index of the first entry that ends the array is how many are before it
pub length_before_null : (o : Order) (table : List ℕ) (end : ℕ) → end ≤ dynamic_entry_count table →
    ((k : ℕ) → k < end → IsNullEntry (dynamic_entry o table k) → ⊥) →
    (end < dynamic_entry_count table → IsNullEntry (dynamic_entry o table end)) →
    end ≡ entries_before_null o table
length_before_null o table end within before found =
    let n = dynamic_entry_count table in
    let xs = dynamic_entries o table n in
    let long : length xs ≡ n = length_dynamic o table n in
    let inside : end ≤ length xs = omega arith in
    let other : (k : ℕ) → k < end → is_null_entry (get_or xs k no_dynamic_entry) ≡ false =
    λ k lt. (let below : k < n = omega arith in
    rw (dynamic_get o table n k below)
    (false_from_ne_true _ (λ test. before k lt ((Decides-int_eq (dynamic_entry o table k).d_tag DT_NULL).0 test)))) in
    let here : end < length xs → is_null_entry (get_or xs end no_dynamic_entry) ≡ true =
    λ lt. (let below : end < n = omega arith in
    rw (dynamic_get o table n end below) ((Decides-int_eq (dynamic_entry o table end).d_tag DT_NULL).1 (found below))) in
    let first : position_or_len is_null_entry xs ≡ end = position_or_len_is is_null_entry xs end no_dynamic_entry inside other here in
    rw first (sym (length-take-le end xs inside))

-- an entry before it is the one that is in the content
pub entry_before_null : (o : Order) (table : List ℕ) (j : ℕ) → j < entries_before_null o table → j < dynamic_entry_count table
entry_before_null o table j before =
    let n = dynamic_entry_count table in
    let xs = dynamic_entries o table n in
    let long : length xs ≡ n = length_dynamic o table n in
    let cut = length-take (position_or_len is_null_entry xs) xs in
    omega arith

pub array_get : (o : Order) (table : List ℕ) (j : ℕ) → j < entries_before_null o table →
    get_or (before_first is_null_entry (dynamic_entries o table (dynamic_entry_count table))) j no_dynamic_entry ≡ dynamic_entry o table j
array_get o table j before =
    let n = dynamic_entry_count table in
    let xs = dynamic_entries o table n in
    let cut = length-take (position_or_len is_null_entry xs) xs in
    let first : j < position_or_len is_null_entry xs = omega arith in
    get_or-take (position_or_len is_null_entry xs) xs j no_dynamic_entry first ∙
    dynamic_get o table n j (entry_before_null o table j before)

-- Relocations and dynamic entries, read by the numbers of a table. The numbers lead to the section's own bytes and order, so what is read
-- of them is the section's list; each entry then follows by its index.

-- ---- relocations

relocations_by_numbers : (t : Table) (b : List ℕ) (i : ℕ) → IsTableOf RelocationTable t b i →
    relocations_in (has_addends t.sh_type) (order_named t.ei_data) (slot_bytes b t.content) ≡ relocations_of (sections_in b) i
unfolding relocations_of
relocations_by_numbers t b i is =
    let f = sections_in b in
    ap (λ (u : Table). relocations_in (has_addends u.sh_type) (order_named t.ei_data) (slot_bytes b t.content)) is.numbers
    ∙ ap (λ (o : Order). relocations_in (has_addends (section f i).sh_type) o (slot_bytes b t.content))
    (table_order RelocationTable t b i is)
    ∙ ap (relocations_in (has_addends (section f i).sh_type) (order f)) (table_content RelocationTable t b i is)

pub relocations_counted : (t : Table) (b : List ℕ) (i : ℕ) → IsTableOf RelocationTable t b i →
    relocation_count (has_addends t.sh_type) (slot_bytes b t.content) ≡ length (relocations_of (sections_in b) i)
relocations_counted t b i is =
    sym (length_relocations (has_addends t.sh_type) (order_named t.ei_data) (slot_bytes b t.content)) ∙
    ap length (relocations_by_numbers t b i is)

pub relocation_by_numbers : (t : Table) (b : List ℕ) (i j : ℕ) → IsTableOf RelocationTable t b i →
    j < relocation_count (has_addends t.sh_type) (slot_bytes b t.content) →
    relocation_in (has_addends t.sh_type) (order_named t.ei_data) (slot_bytes b t.content) j ≡
    get_or (relocations_of (sections_in b) i) j no_relocation_entry
relocation_by_numbers t b i j is within =
    sym (relocation_get (has_addends t.sh_type) (order_named t.ei_data) (slot_bytes b t.content) j within)
    ∙ ap (λ (rs : List Relocation). get_or rs j no_relocation_entry) (relocations_by_numbers t b i is)

-- ---- dynamic arrays

abbrev array_in : Order → List ℕ → List Dyn
array_in o table = before_first is_null_entry (dynamic_entries o table (dynamic_entry_count table))

array_by_numbers : (t : Table) (b : List ℕ) (i : ℕ) → IsTableOf DynamicArray t b i →
    array_in (order_named t.ei_data) (slot_bytes b t.content) ≡ dynamic_array_of (sections_in b) i
unfolding dynamic_array_of
array_by_numbers t b i is =
    let f = sections_in b in
    ap (λ (o : Order). array_in o (slot_bytes b t.content)) (table_order DynamicArray t b i is)
    ∙ ap (array_in (order f)) (table_content DynamicArray t b i is)

-- the table's numbers have their count
pub array_counted : (t : Table) (b : List ℕ) (i : ℕ) → IsTableOf DynamicArray t b i →
    t.entries ≡ length (dynamic_array_of (sections_in b) i)
array_counted t b i is =
    ap (λ (u : Table). u.entries) is.numbers ∙ ap (λ (k : Option TableKind). length_of_table k (sections_in b) i) is.typed

pub array_counted_in : (t : Table) (b : List ℕ) (i : ℕ) → IsTableOf DynamicArray t b i →
    entries_before_null (order_named t.ei_data) (slot_bytes b t.content) ≡ length (dynamic_array_of (sections_in b) i)
array_counted_in t b i is = ap length (array_by_numbers t b i is)

pub entry_by_numbers : (t : Table) (b : List ℕ) (i j : ℕ) → IsTableOf DynamicArray t b i → j < length (dynamic_array_of (sections_in b) i) →
    dynamic_entry (order_named t.ei_data) (slot_bytes b t.content) j ≡ get_or (dynamic_array_of (sections_in b) i) j no_dynamic_entry
entry_by_numbers t b i j is below =
    sym (array_get (order_named t.ei_data) (slot_bytes b t.content) j (subst (λ (n : ℕ). j < n) (sym (array_counted_in t b i is)) below))
    ∙ ap (λ (entries : List Dyn). get_or entries j no_dynamic_entry) (array_by_numbers t b i is)

-- and its strings are those that the section links to
pub array_strings : (t : Table) (b : List ℕ) (i : ℕ) → IsTableOf DynamicArray t b i →
    slot_bytes b t.strings ≡ dynamic_strings (sections_in b) i
unfolding dynamic_section_rules
array_strings t b i is =
    let f = sections_in b in
    let link = link_there DynamicArray f i (FirstIn-front (own_rules DynamicArray f i) _ (table_sound DynamicArray t b i is)) in
    table_strings DynamicArray t b i is ∙ sym (content_listed b (section f i).sh_link link)

-- The hash table that the numbers of a table describe is that of its section: words, symbols and strings are the bytes of the three
-- sections. Since the section breaks no rule, the table is valid for its names.

-- the sections are there that it links to, and that its symbol table does
symbols_there : (f : Sections) (i : ℕ) → FirstIn (hash_table_rules f i) None → (section f i).sh_link < count f
unfolding hash_table_rules
symbols_there f i sound = link_there HashTable f i (FirstIn-front (own_rules HashTable f i) _ sound)

strings_there : (f : Sections) (i : ℕ) → FirstIn (hash_table_rules f i) None → (section f (section f i).sh_link).sh_link < count f
unfolding hash_table_rules
strings_there f i sound =
    let link = (section f i).sh_link in
    sound_link f link (FirstIn-front (symbol_table_rules f link) _ (FirstIn-after (own_rules HashTable f i) _ sound))

-- its words and the names of its symbols are those of the section
pub table_hash : (t : Table) (b : List ℕ) (i : ℕ) → IsTableOf HashTable t b i →
    hash_in (order_named t.ei_data) (slot_bytes b t.content) (slot_bytes b t.linked) (slot_bytes b t.strings) ≡
    hash_of_section (sections_in b) i
table_hash t b i is =
    let f = sections_in b in
    let sound = table_sound HashTable t b i is in
    let link = (section f i).sh_link in
    let own = table_order HashTable t b i is in
    let words = table_content HashTable t b i is in
    let symbols : slot_bytes b t.linked ≡ content f link =
    table_linked HashTable t b i is ∙ sym (content_listed b link (symbols_there f i sound)) in
    let strings : slot_bytes b t.strings ≡ content f (section f link).sh_link =
    table_strings HashTable t b i is ∙ sym (content_listed b (section f link).sh_link (strings_there f i sound)) in
    let named : names_in (order f) (content f link) (content f (section f link).sh_link) ≡ symbol_names_of f link =
    names_of_section f link in
    rw (own, words, symbols, strings, named) refl

-- ---- a table that breaks no rule is one for these names

pub table_valid : (t : Table) (b : List ℕ) (i : ℕ) → IsTableOf HashTable t b i →
    let hash = hash_of_section (sections_in b) i in Valid hash.words hash.names
table_valid t b i is =
    let f = sections_in b in
    let sound = table_sound HashTable t b i is in
    let typed = sound_hash_type f i sound in
    valid_in_section f i sound (content_long b i is.kept is.there (λ null. omega arith) (λ bits. omega arith))

-- By the numbers of a table of a file, order, content and linked contents are the section's, and so are the symbols read
-- (`symbols_by_numbers`). Rules 50 and 51 give each symbol with index 0xffff a word in the index table. So symbol j is there exactly if j
-- is below the count, and is the one of the list.

-- ---- what is read by the numbers is what the rules look at

pub symbols_by_numbers : (t : Table) (b : List ℕ) (i : ℕ) → IsTableOf SymbolTable t b i →
    symbols_in (order_named t.ei_data) (slot_bytes b t.content) (slot_bytes b t.strings) (slot_bytes b t.linked) ≡
    symbols_of (sections_in b) i
unfolding symbols_of
symbols_by_numbers t b i is =
    let f = sections_in b in
    let link = (section f i).sh_link in
    let names : slot_bytes b t.strings ≡ content f link =
    table_strings SymbolTable t b i is ∙ sym (content_listed b link (sound_link f i (table_sound SymbolTable t b i is))) in
    let words : slot_bytes b t.linked ≡ index_words f (index_table f i) = table_linked SymbolTable t b i is ∙ index_bytes b i in
    ap (λ (o : Order). symbols_in o (slot_bytes b t.content) (slot_bytes b t.strings) (slot_bytes b t.linked))
    (table_order SymbolTable t b i is)
    ∙ ap (λ (table : List ℕ). symbols_in (order f) table (slot_bytes b t.strings) (slot_bytes b t.linked))
    (table_content SymbolTable t b i is)
    ∙ ap (λ (strings : List ℕ). symbols_in (order f) (content f i) strings (slot_bytes b t.linked)) names
    ∙ ap (λ (table : List ℕ). symbols_in (order f) (content f i) (content f link) table) words

-- ---- each symbol that needs a word of the index table has it

-- rules 49 and 50, and 51 and 52, are kept
index_table_kept : (f : Sections) (i : ℕ) → FirstIn (symbol_table_rules f i) None →
    FirstIn (index_table_rules f i (index_table f i) (entry_count (content f i)) ++ place_rules (symbol_parts f i)) None
unfolding symbol_table_rules rest_rules
index_table_kept f i sound =
    let p = symbol_parts f i in
    FirstIn-after (symbol_entry_rules p) _
    (FirstIn-after (linked_string_rules p.names p.names_start) _ (FirstIn-after (own_rules SymbolTable f i) _ sound))

-- the index table has a word for each symbol
index_table_sized : (f : Sections) (i j : ℕ) → FirstIn (symbol_table_rules f i) None → index_table f i ≡ Some j →
    (section f j).sh_size ≡ WORD_SIZE * entry_count (content f i)
unfolding index_table_rules
index_table_sized f i j sound is =
    let kept = FirstIn-front (index_table_rules f i (index_table f i) (entry_count (content f i))) _ (index_table_kept f i sound) in
    let size = rw is at kept.1.0 in
    elim (cases_eq (section f j).sh_size (WORD_SIZE * entry_count (content f i))) [
      | inl same ↦ same
      | inr other ↦ absurd (size _ (inl (other, refl)))
    ]

-- and is there where a symbol needs it
index_table_needed : (f : Sections) (i j : ℕ) → FirstIn (symbol_table_rules f i) None → j < entry_count (content f i) →
    (entry (order f) (content f i) j).st_shndx ≡ SHN_XINDEX → (k : ℕ) × (index_table f i ≡ Some k)
unfolding place_rules
index_table_needed f i j sound within extended = some (index_table f i) refl where
  places : FirstIn (place_rules (symbol_parts f i)) None
  places = FirstIn-after (index_table_rules f i (index_table f i) (entry_count (content f i))) _ (index_table_kept f i sound)

  some : (found : Option ℕ) → index_table f i ≡ found → (k : ℕ) × (index_table f i ≡ Some k)
  some None is = absurd (places.0 _ (j, within, inl (extended, is), refl))
  some (Some k) is = (k, is)

word_there : (b : List ℕ) (i j : ℕ) (t : Table) → IsTableOf SymbolTable t b i → let f = sections_in b in
    j < entry_count (content f i) → (entry (order f) (content f i) j).st_shndx ≡ SHN_XINDEX →
    WORD_SIZE * j + WORD_SIZE ≤ length (index_words f (index_table f i))
word_there b i j t is within extended =
    let f = sections_in b in
    let sound = table_sound SymbolTable t b i is in
    let (k, found) = index_table_needed f i j sound within extended in
    let sized = index_table_sized f i k sound found in
    let long = index_words_long b i k is.kept found in
    rw found (omega arith)

-- so the table has exactly the symbols of the list
pub symbol_there : (t : Table) (b : List ℕ) (i j : ℕ) → IsTableOf SymbolTable t b i →
    HasSymbol t b j ↔ (j < length (symbols_of (sections_in b) i))
symbol_there t b i j is =
    let f = sections_in b in
    let own = table_content SymbolTable t b i is in
    let ordered = table_order SymbolTable t b i is in
    let words : slot_bytes b t.linked ≡ index_words f (index_table f i) = table_linked SymbolTable t b i is ∙ index_bytes b i in
    let listed : length (symbols_of f i) ≡ entry_count (slot_bytes b t.content) =
    ap length (sym (symbols_by_numbers t b i is)) ∙
    length_symbols (order_named t.ei_data) (slot_bytes b t.content) (slot_bytes b t.strings) (slot_bytes b t.linked) in (
      λ has. subst (λ (n : ℕ). j < n) (sym listed) has.1,
      λ below. (let within : j < entry_count (slot_bytes b t.content) = subst (λ (n : ℕ). j < n) listed below in (
        table_kind SymbolTable t b i is,
        within,
        λ extended. subst (λ (w : List ℕ). WORD_SIZE * j + WORD_SIZE ≤ length w) (sym words)
            (word_there b i j t is (subst (λ (c : List ℕ). j < entry_count c) own within)
            (subst (λ (o : Order). (entry o (content f i) j).st_shndx ≡ SHN_XINDEX) ordered
            (subst (λ (c : List ℕ). (entry (order_named t.ei_data) c j).st_shndx ≡ SHN_XINDEX) own extended))),
      )),
    )

-- and symbol j is the one of its index
pub symbol_by_numbers : (t : Table) (b : List ℕ) (i j : ℕ) → IsTableOf SymbolTable t b i → j < entry_count (slot_bytes b t.content) →
    symbol_entry_in (order_named t.ei_data) (slot_bytes b t.content) (slot_bytes b t.strings) (slot_bytes b t.linked) j ≡
    get_or (symbols_of (sections_in b) i) j no_symbol_entry
symbol_by_numbers t b i j is within =
    sym (symbol_get (order_named t.ei_data) (slot_bytes b t.content) (slot_bytes b t.strings) (slot_bytes b t.linked) j within)
    ∙ ap (λ (symbols : List SymbolEntryValue). get_or symbols j no_symbol_entry) (symbols_by_numbers t b i is)

-- Each note begins where the one before it ends and is never empty, so there are n notes at most if note n would begin at the end or later.

-- a note has a header at least
pub note_end_above : (o : Order) (table : List ℕ) (x : ℕ) → x + NHDR_SIZE ≤ note_end o table x
unfolding note_end desc_start
note_end_above o table x = omega arith

-- each note begins where the one before it ends
pub note_offset_next : (o : Order) (table : List ℕ) (x k : ℕ) → note_offset o table x (suc k) ≡ note_end o table (note_offset o table x k)
unfolding note_offset
note_offset_next o table x zero = refl
note_offset_next o table x (suc k) = note_offset_next o table (note_end o table x) k

pub note_offset_after : (o : Order) (table : List ℕ) (x k : ℕ) → x ≡ note_offset o table 0 k →
    note_end o table x ≡ note_offset o table 0 (k + 1)
note_offset_after o table x k place = rw (add-one k) (ap (note_end o table) place ∙ sym (note_offset_next o table 0 k))

pub note_offset_zero : (o : Order) (table : List ℕ) (x : ℕ) → note_offset o table x zero ≡ x
unfolding note_offset
note_offset_zero o table x = refl

-- n notes begin in the content, and note n would begin after it
pub no_more : (o : Order) (table : List ℕ) (n : ℕ) → length table ≤ note_offset o table 0 n → length (notes_in o table 0) ≤ n
no_more o table n past =
    let notes : List NoteValue = notes_in o table 0 in
    elim (cases_lt n (length notes)) [
      | inl below ↦
          let some : slice_get notes n ≡ Some (get_or notes n (note_at o table 0)) = slice_get-get_or notes n (note_at o table 0) below in
          let none : slice_get notes n ≡ None = no_note_entry o table 0 n past in
          absurd cc
      | inr past ↦ past
    ]

-- The notes of a note section, read by the numbers of a table. A note's words and its end are the same in the content and in the file,
-- shifted by the content's start; and since all notes are whole, note k is there exactly if its end lies in the content.

-- ---- where a note of a content ends in the file

word_in_file : (o : Order) (b : List ℕ) (e : Extent) (x at : ℕ) → x + at + WORD_SIZE ≤ e.len →
    word_at o (bytes_in b e) (x + at) ≡ word_at o b (e.start + x + at)
word_in_file o b e x at within =
    let place : e.start + (x + at) ≡ e.start + x + at = omega arith in
    record_of_part word_laws o b e.start e.len (x + at) within ∙ ap (word_at o b) place

pub note_end_in_file : (o : Order) (b : List ℕ) (e : Extent) (x : ℕ) → note_end o (bytes_in b e) x ≤ e.len →
    note_end o b (e.start + x) ≡ e.start + note_end o (bytes_in b e) x
unfolding namesz descsz note_end desc_start
note_end_in_file o b e x within =
    let t : List ℕ = bytes_in b e in
    let names : namesz o t x ≡ namesz o b (e.start + x) = word_in_file o b e x N_NAMESZ_AT (omega arith) in
    let descs : descsz o t x ≡ descsz o b (e.start + x) = word_in_file o b e x N_DESCSZ_AT (omega arith) in
    let named : padded (namesz o t x) ≡ padded (namesz o b (e.start + x)) = ap padded names in
    let known : padded (descsz o t x) ≡ padded (descsz o b (e.start + x)) = ap padded descs in
    omega arith

-- and where what it holds is there
pub note_stands_in_file : (n : Note) (o : Order) (b : List ℕ) (e : Extent) (x : ℕ) → note_end o (bytes_in b e) x ≤ e.len →
    NoteStandsAt n o b 0 (e.start + x) → NoteStandsAt n o (bytes_in b e) e.start x
unfolding namesz descsz note_end desc_start
note_stands_in_file n o b e x within (name, desc) =
    let t : List ℕ = bytes_in b e in
    let names : namesz o t x ≡ namesz o b (e.start + x) = word_in_file o b e x N_NAMESZ_AT (omega arith) in
    let descs : descsz o t x ≡ descsz o b (e.start + x) = word_in_file o b e x N_DESCSZ_AT (omega arith) in
    let named : padded (namesz o t x) ≡ padded (namesz o b (e.start + x)) = ap padded names in
    let begins : 0 + name_start (e.start + x) ≡ e.start + name_start x = omega arith in
    let known : 0 + desc_start o b (e.start + x) ≡ e.start + desc_start o t x = omega arith in (
      name ∙ ap (λ (s : ℕ). slot s (namesz o b (e.start + x) - 1)) begins ∙
          ap (λ (l : ℕ). slot (e.start + name_start x) (l - 1)) (sym names),
      desc ∙ ap (λ (s : ℕ). slot s (descsz o b (e.start + x))) known ∙ ap (slot (e.start + desc_start o t x)) (sym descs),
    ) where
      slot : ℕ → ℕ → Slot
      slot start len = record { start = start; len = len }

pub length-bytes_in : (b : List ℕ) (e : Extent) → length (bytes_in b e) ≤ e.len
length-bytes_in b e = let cut = length-take e.len (drop e.start b) in omega arith

-- ---- the notes of a section that breaks no rule

-- all notes are whole
notes_whole : (o : Order) (table : List ℕ) (start : ℕ) → FirstIn (note_rules o table start) None → AreNotesWhole o table 0
unfolding note_rules
notes_whole o table start sound k below =
    elim (cases_lt (length table) (note_end o table (note_offset o table 0 k))) [
      | inl past ↦ absurd (sound.1.1.0 _ (k, below, past, refl))
      | inr within ↦ within
    ]

pub whole_by_numbers : (t : Table) (b : List ℕ) (i : ℕ) → IsTableOf NoteSection t b i →
    AreNotesWhole (order_named t.ei_data) (slot_bytes b t.content) 0
unfolding note_section_rules
whole_by_numbers t b i is =
    let f = sections_in b in
    subst (λ (o : Order). AreNotesWhole o (slot_bytes b t.content) 0) (sym (table_order NoteSection t b i is))
    (subst (λ (c : List ℕ). AreNotesWhole (order f) c 0) (sym (table_content NoteSection t b i is))
    (notes_whole (order f) (content f i) _ (table_sound NoteSection t b i is).1))

-- its numbers have the count of those before the first that is cut
pub table_whole : (t : Table) (b : List ℕ) (i : ℕ) → IsTableOf NoteSection t b i →
    t.entries ≡ whole_notes (order_named t.ei_data) (slot_bytes b t.content)
table_whole t b i is =
    let f = sections_in b in
    ap (λ (u : Table). u.entries) is.numbers ∙ ap (λ (k : Option TableKind). length_of_table k f i) is.typed
    ∙ ap (λ (o : Order). whole_notes o (content f i)) (sym (table_order NoteSection t b i is))
    ∙ ap (whole_notes (order_named t.ei_data)) (sym (table_content NoteSection t b i is))

notes_by_numbers : (t : Table) (b : List ℕ) (i : ℕ) → IsTableOf NoteSection t b i →
    notes_in (order_named t.ei_data) (slot_bytes b t.content) 0 ≡ notes_of (sections_in b) i
unfolding notes_of
notes_by_numbers t b i is =
    let f = sections_in b in
    ap (λ (o : Order). notes_in o (slot_bytes b t.content) 0) (table_order NoteSection t b i is)
    ∙ ap (λ (c : List ℕ). notes_in (order f) c 0) (table_content NoteSection t b i is)

-- note k is there exactly where the note at its offset ends in the content
there_in : (o : Order) (table : List ℕ) (k : ℕ) → AreNotesWhole o table 0 →
    note_end o table (note_offset o table 0 k) ≤ length table ↔ (k < length (notes_in o table 0))
there_in o table k whole =
    let above = note_end_above o table (note_offset o table 0 k) in (
      λ ends. slice_get_within (notes_in o table 0) k _ (note_entry o table 0 k (omega arith)),
      λ below. elim (cases_lt (note_offset o table 0 k) (length table)) [
        | inl begins ↦ whole k begins
        | inr past ↦ (let none = no_more o table k past in absurd (omega arith))
      ],
    )

pub note_there : (t : Table) (b : List ℕ) (i k : ℕ) → IsTableOf NoteSection t b i → let o = order_named t.ei_data in let c =
    slot_bytes b t.content in
    note_end o c (note_offset o c 0 k) ≤ length c ↔ (k < length (notes_of (sections_in b) i))
note_there t b i k is =
    let o = order_named t.ei_data in
    let c = slot_bytes b t.content in
    subst (λ (notes : List NoteValue). note_end o c (note_offset o c 0 k) ≤ length c ↔ (k < length notes)) (notes_by_numbers t b i is)
    (there_in o c k (whole_by_numbers t b i is))

-- after a note that is cut there is none
pub none_after : (t : Table) (b : List ℕ) (i k j : ℕ) → IsTableOf NoteSection t b i → let o = order_named t.ei_data in let c =
    slot_bytes b t.content in
    k < j → length c < note_end o c (note_offset o c 0 k) → j < length (notes_of (sections_in b) i) → ⊥
none_after t b i k j is before cut below =
    let there = (note_there t b i k is).1 (omega arith) in
    omega arith

-- and it is the one of its index
pub note_by_numbers : (t : Table) (b : List ℕ) (i k : ℕ) → IsTableOf NoteSection t b i → let o = order_named t.ei_data in let c =
    slot_bytes b t.content in
    note_end o c (note_offset o c 0 k) ≤ length c → note_at o c (note_offset o c 0 k) ≡ get_or (notes_of (sections_in b) i) k no_note_value
note_by_numbers t b i k is ends =
    let o = order_named t.ei_data in
    let c = slot_bytes b t.content in
    let above = note_end_above o c (note_offset o c 0 k) in
    let notes : List NoteValue = notes_in o c 0 in
    let entry = note_entry o c 0 k (omega arith) in
    sym (ap (λ r. unwrap_or r no_note_value) entry) ∙ unwrap_or-slice_get notes k no_note_value
    ∙ ap (λ (all : List NoteValue). get_or all k no_note_value) (notes_by_numbers t b i is)
