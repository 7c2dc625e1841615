-- Tables of the library for C: an index of symbol tables, and what is read of tables by number.
use Rattle.std.proofs.Common.{◌≡◌, ◌≢◌, ◌<◌, ℕ, Bool, false, true, List, None, Option, Some, ap, inl, inr, refl, sym, ◌∙◌, ◌≤◌, ◌+◌, zero}
use Rattle.std.proofs.Common.{suc, length, drop, subst, arith}
use Rattle.std.proofs.lemmas.Bool.{cases_lt, eq-eqb, eqb-true, cases_eq, ne_eqb}
use Rattle.std.specs.Cmp.Derive.{both_true}
use Rattle.std.specs.Prelude.{◌==◌, ◌&&◌, ◌/◌}
use Rattle.std.proofs.lemmas.List.{length-drop, length-take}
use Rattle.std.proofs.lemmas.List.Quantifiers.{position-Some}
use Rattle.std.proofs.lemmas.List.FromFn.{length-map-range_with_len}
use Rattle.elf_c.proofs.ReadFiles.{count_listed, content_listed, section_listed}
use Rattle.elf_c.specs.Files.{IsFileOf, order_named}
use Rattle.elf_c.specs.Tables.{index_place, no_place, IsTableOfKind, IsTableOf, linked_place, slot_bytes, strings_place, length_in}
use Rattle.elf_c.specs.Tables.{HoldsTable, IsLinkThere, content_place, length_of_table, table_in, words_of}
use Rattle.elf_c.specs.declared.shapes.File.{File}
use Rattle.elf_c.specs.declared.shapes.Table.{Table}
use Rattle.elf_c_parts.specs.Slots.{extent_in}
use Rattle.elf_c_parts.specs.declared.room.Slot.{Slot}
use Rattle.elf_extent.specs.Extent.{IsLowest}
use Rattle.elf_extent.specs.declared.extent.Extent.{Extent}
use Rattle.elf_field.specs.Abi.{SHT_NOBITS, SHT_NULL, SHT_SYMTAB_SHNDX, WORD_SIZE}
use Rattle.elf_field.specs.declared.ehdr.Ehdr.{Ehdr}
use Rattle.elf_field.specs.declared.number.Order.{Order}
use Rattle.elf_field.specs.declared.shdr.Shdr.{Shdr}
use Rattle.elf_image_outline.specs.Image.{no_section_header}
use Rattle.elf_image_rules.proofs.Public.{sound_file, table_some}
use Rattle.elf_image_rules.specs.KeepsRules.{HasSoundTables}
use Rattle.elf_image_rules.specs.Rows.{FirstIn}
use Rattle.elf_image_rules.specs.Rules.{KeepsRecordRules}
use Rattle.elf_image_rules.specs.Tables.{content_extent, bytes_in, file_counts, header, order_of, section_header_count, sections}
use Rattle.elf_table_all.specs.Tables.{rules_of_kind, table_rules}
use Rattle.elf_table_hash.specs.HashTable.{words_in}
use Rattle.elf_table_lists.proofs.Public.{length_relocations}
use Rattle.elf_table_lists.specs.Dynamic.{dynamic_array_of}
use Rattle.elf_table_lists.specs.Relocations.{has_addends, relocations_of}
use Rattle.elf_table_symbols.proofs.Public.{lowest_position, length_symbols}
use Rattle.elf_table_symbols.specs.Sections.{Sections, count, section, sections_in, Below, content, order, kind_of}
use Rattle.elf_table_symbols.specs.Symbols.{IsIndexTable, index_table, index_words, symbol_parts, word, symbols_of}
use Rattle.elf_table_symbols.specs.declared.table_section.TableKind.TheVariants.{SymbolTable, RelocationTable, SectionGroup, NoteSection}
use Rattle.elf_table_symbols.specs.declared.table_section.TableKind.TheVariants.{DynamicArray, HashTable}
use Rattle.elf_table_symbols.specs.declared.table_section.TableKind.{TableKind}

-- The index table of a symbol table is the lowest section that is one. So a search section by section, up to the first such section or to
-- the end, finds its place, or that there is none.

pub both_hold : (p q : Bool) → (p && q) ≡ true → (p ≡ true) × (q ≡ true)
both_hold true q both = (refl, both)
both_hold false q both = cc

-- the lowest section that is one is the index table
index_table_is : (f : Sections) (i : ℕ) (found : Option ℕ) → IsLowest (Below (count f) (IsIndexTable f i)) found → found ≡ index_table f i
unfolding index_table
index_table_is f i found lowest =
    lowest_position (λ (s : Shdr). (s.sh_type == SHT_SYMTAB_SHNDX) && (s.sh_link == i)) f.headers no_section_header (IsIndexTable f i) found
    (λ k here. both_true (eq-eqb _ _ here.0) (eq-eqb _ _ here.1))
    (λ k test. (let parts = both_hold _ _ test in (eqb-true _ _ parts.0, eqb-true _ _ parts.1)))
    lowest

-- the numbers of a file have its count of sections
pub count_by_numbers : (f : File) (b : List ℕ) → IsFileOf f b → f.sections ≡ count (sections_in b)
count_by_numbers f b is = ap (λ (g : File). g.sections) is.numbers ∙ sym (count_listed b)

-- so where section j is one and none before it is, its content is at the place that is reported
pub first_index_place : (f : Sections) (i j : ℕ) (s : Shdr) (place : Slot) → j < count f → s ≡ section f j →
    extent_in place ≡ content_extent s →
    s.sh_type ≡ SHT_SYMTAB_SHNDX → s.sh_link ≡ i → ((k : ℕ) → k < j → IsIndexTable f i k → ⊥) → place ≡ index_place f (index_table f i)
first_index_place f i j s place below same extent typed linked before =
    let lowest : IsLowest (Below (count f) (IsIndexTable f i)) (Some j) = record {
      holds = (below, (ap (λ (t : Shdr). t.sh_type) (sym same) ∙ typed, ap (λ (t : Shdr). t.sh_link) (sym same) ∙ linked));
      lowest = λ k here. elim (cases_lt k j) [ inl lower ↦ absurd (before k lower here.1) | inr above ↦ above ];
    } in
    ap (λ (e : Extent). slot e) extent ∙ ap (λ (t : Shdr). slot (content_extent t)) same ∙
    ap (index_place f) (index_table_is f i (Some j) lowest) where
      slot : Extent → Slot
      slot e = record { start = e.start; len = e.len }

-- and where none is, no bytes do
pub no_index_place : (f : Sections) (i : ℕ) → ((k : ℕ) → k < count f → IsIndexTable f i k → ⊥) → no_place ≡ index_place f (index_table f i)
no_index_place f i never = ap (index_place f) (index_table_is f i None (λ k here. never k here.0 here.1))

-- What the numbers of a table represent: the file's order, the contents of the section and those that it links to. The table breaks no
-- rule.

pub order_by_numbers : (t : Table) (b : List ℕ) (i : ℕ) → t ≡ table_in b i → order_named t.ei_data ≡ order (sections_in b)
unfolding order_of sections_in
order_by_numbers t b i numbers = ap (λ (u : Table). order_named u.ei_data) numbers

pub content_by_numbers : (t : Table) (b : List ℕ) (i : ℕ) → t ≡ table_in b i → i < count (sections_in b) →
    slot_bytes b t.content ≡ content (sections_in b) i
content_by_numbers t b i numbers there = ap (λ (u : Table). slot_bytes b u.content) numbers ∙ sym (content_listed b i there)

pub table_order : (kind : TableKind) (t : Table) (b : List ℕ) (i : ℕ) → IsTableOf kind t b i → order_named t.ei_data ≡ order (sections_in b)
table_order kind t b i is = order_by_numbers t b i is.numbers

pub table_content : (kind : TableKind) (t : Table) (b : List ℕ) (i : ℕ) → IsTableOf kind t b i →
    slot_bytes b t.content ≡ content (sections_in b) i
table_content kind t b i is = content_by_numbers t b i is.numbers is.there

pub table_strings : (kind : TableKind) (t : Table) (b : List ℕ) (i : ℕ) → IsTableOf kind t b i →
    let f = sections_in b in slot_bytes b t.strings ≡ slot_bytes b (strings_place (Some kind) f (section f i).sh_link)
table_strings kind t b i is =
    let f = sections_in b in
    ap (λ (u : Table). slot_bytes b u.strings) is.numbers
    ∙ ap (λ (k : Option TableKind). slot_bytes b (strings_place k f (section f i).sh_link)) is.typed

pub table_linked : (kind : TableKind) (t : Table) (b : List ℕ) (i : ℕ) → IsTableOf kind t b i →
    let f = sections_in b in slot_bytes b t.linked ≡ slot_bytes b (linked_place (Some kind) f i (section f i).sh_link)
table_linked kind t b i is =
    let f = sections_in b in
    ap (λ (u : Table). slot_bytes b u.linked) is.numbers
    ∙ ap (λ (k : Option TableKind). slot_bytes b (linked_place k f i (section f i).sh_link)) is.typed

pub table_kind : (kind : TableKind) (t : Table) (b : List ℕ) (i : ℕ) → IsTableOf kind t b i → IsTableOfKind kind t
table_kind kind t b i is = ap (λ (u : Table). kind_of u.sh_type) is.numbers ∙ is.typed

-- no rule of its kind is broken
pub table_sound : (kind : TableKind) (t : Table) (b : List ℕ) (i : ℕ) → IsTableOf kind t b i →
    FirstIn (rules_of_kind (Some kind) (sections_in b) i) None
unfolding table_rules
table_sound kind t b i is = subst (λ (k : Option TableKind). FirstIn (rules_of_kind k (sections_in b) i) None) is.typed is.sound

-- ---- the content of a section: it has as many bytes as the section header says, since these are in the file

content_inside : (len : ℕ) (h : Ehdr) (s : ℕ → Shdr) (i : ℕ) → HasSoundTables len h s → i < section_header_count h (s 0) →
    (s i).sh_type ≢ SHT_NULL → (s i).sh_type ≢ SHT_NOBITS → 0 < (s i).sh_size → (s i).sh_offset + (s i).sh_size ≤ len
content_inside len h s zero sound below typed bits some = absurd (typed (sound.null (table_some h (s 0) (omega arith))))
content_inside len h s (suc i) sound below typed bits some = sound.content (suc i) (omega arith) below typed bits some

extent_long : (b : List ℕ) (s : Shdr) → s.sh_type ≢ SHT_NULL → s.sh_type ≢ SHT_NOBITS →
    (0 < s.sh_size → s.sh_offset + s.sh_size ≤ length b) →
    length (bytes_in b (content_extent s)) ≡ s.sh_size
extent_long b s typed bits inside =
    let whole : (content_extent s).len ≡ s.sh_size = rw (ne_eqb s.sh_type SHT_NULL typed, ne_eqb s.sh_type SHT_NOBITS bits) refl in
    let left = length-drop s.sh_offset b in
    let cut = length-take s.sh_size (drop s.sh_offset b) in
    rw whole (elim (cases_eq s.sh_size 0) [
      | inl none ↦ omega arith
      | inr some ↦ (let fits = inside (omega arith) in omega arith)
    ])

pub content_long : (b : List ℕ) (i : ℕ) → KeepsRecordRules b → i < count (sections_in b) →
    (section (sections_in b) i).sh_type ≢ SHT_NULL → (section (sections_in b) i).sh_type ≢ SHT_NOBITS →
    length (content (sections_in b) i) ≡ (section (sections_in b) i).sh_size
content_long b i kept there typed bits =
    let h = header b in
    let s : Shdr = section (sections_in b) i in
    let below : i < (file_counts b).sections = subst (λ (n : ℕ). i < n) (count_listed b) there in
    let same : s ≡ sections b h i = section_listed b i below in
    let inside = content_inside (length b) h (sections b h) i (sound_file b h refl kept) below
    (subst (λ (t : Shdr). t.sh_type ≢ SHT_NULL) same typed) (subst (λ (t : Shdr). t.sh_type ≢ SHT_NOBITS) same bits) in
    ap length (content_listed b i there)
    ∙ extent_long b s typed bits (subst (λ (t : Shdr). 0 < t.sh_size → t.sh_offset + t.sh_size ≤ length b) (sym same) inside)

-- ---- an index table

index_there : (f : Sections) (i j : ℕ) → index_table f i ≡ Some j → (j < count f) × ((section f j).sh_type ≡ SHT_SYMTAB_SHNDX)
unfolding index_table
index_there f i j found =
    let at = position-Some (λ (s : Shdr). (s.sh_type == SHT_SYMTAB_SHNDX) && (s.sh_link == i)) f.headers j no_section_header found in
    (at.0, eqb-true _ _ (both_hold _ _ at.1).0)

-- its words are the bytes at its place
index_bytes_of : (b : List ℕ) (i : ℕ) (found : Option ℕ) → index_table (sections_in b) i ≡ found →
    slot_bytes b (index_place (sections_in b) found) ≡ index_words (sections_in b) found
index_bytes_of b i None is = refl
index_bytes_of b i (Some j) is = sym (content_listed b j (index_there (sections_in b) i j is).0)

pub index_bytes : (b : List ℕ) (i : ℕ) → let f = sections_in b in
    slot_bytes b (index_place f (index_table f i)) ≡ index_words f (index_table f i)
index_bytes b i = index_bytes_of b i (index_table (sections_in b) i) refl

pub index_words_long : (b : List ℕ) (i j : ℕ) → KeepsRecordRules b → index_table (sections_in b) i ≡ Some j →
    length (content (sections_in b) j) ≡ (section (sections_in b) j).sh_size
index_words_long b i j kept is =
    let there = index_there (sections_in b) i j is in
    let typed = there.1 in
    content_long b j kept there.0 (λ null. omega arith) (λ bits. omega arith)

-- If a section is there, and its header, kind, places and count were found by a file's numbers, these are the table's numbers.
-- `table_gathered` shows this field by field, and that the table is held (`HoldsTable`). The count is the length of the table's list, by
-- cases on the kind.

-- the words of a section are as many as its content has
pub words_counted : (f : Sections) (i : ℕ) → length (content f i) / WORD_SIZE ≡ length (words_of f i)
unfolding words_in
words_counted f i = sym (length-map-range_with_len (word (order f) (content f i)) 0 _)

-- its entries are as many as its content has
length_by_content : (kind : Option TableKind) (f : Sections) (i : ℕ) →
    length_in kind (section f i).sh_type (order f) (content f i) ≡ length_of_table kind f i
unfolding symbols_of relocations_of dynamic_array_of
length_by_content (Some SymbolTable) f i = (let p = symbol_parts f i in sym (length_symbols p.order p.table p.names p.words))
length_by_content (Some RelocationTable) f i = sym (length_relocations (has_addends (section f i).sh_type) (order f) (content f i))
length_by_content (Some SectionGroup) f i = words_counted f i
length_by_content (Some NoteSection) f i = refl
length_by_content (Some DynamicArray) f i = refl
length_by_content (Some HashTable) f i = words_counted f i
length_by_content None f i = words_counted f i

abbrev numbers : Slot → Slot → Slot → ℕ → ℕ → ℕ → Table
numbers place linked strings entries type ei_data = record {
  content = place;
  linked = linked;
  strings = strings;
  entries = entries;
  sh_type = type;
  ei_data = ei_data;
}

same_numbers : (a a' l l' s s' : Slot) (n n' t t' d d' : ℕ) → a ≡ a' → l ≡ l' → s ≡ s' → n ≡ n' → t ≡ t' → d ≡ d' →
    numbers a l s n t d ≡ numbers a' l' s' n' t' d'
same_numbers a a' l l' s s' n n' t t' d d' place linked strings entries type encoding =
    ap (λ (x : Slot). numbers x l s n t d) place ∙ ap (λ (x : Slot). numbers a' x s n t d) linked ∙
    ap (λ (x : Slot). numbers a' l' x n t d) strings
    ∙ ap (λ (x : ℕ). numbers a' l' s' x t d) entries ∙ ap (λ (x : ℕ). numbers a' l' s' n' x d) type ∙
    ap (λ (x : ℕ). numbers a' l' s' n' t' x) encoding

own_order : (file : File) (b : List ℕ) → IsFileOf file b → order_named file.ei_data ≡ order (sections_in b)
unfolding order_of sections_in
own_order file b is = ap (λ (g : File). order_named g.ei_data) is.numbers

own_data : (file : File) (b : List ℕ) (i : ℕ) → IsFileOf file b → file.ei_data ≡ (table_in b i).ei_data
unfolding sections_in
own_data file b i is = ap (λ (g : File). g.ei_data) is.numbers

pub table_gathered : (file : File) (b : List ℕ) (i : ℕ) (s : Shdr) (kind : Option TableKind) (place linked strings : Slot) (n : ℕ) →
    IsFileOf file b →
    let f = sections_in b in i < count f → s ≡ section f i → kind ≡ kind_of s.sh_type → IsLinkThere kind f s →
    linked ≡ linked_place kind f i s.sh_link → strings ≡ strings_place kind f s.sh_link → extent_in place ≡ content_extent s →
    n ≡ length_in kind s.sh_type (order_named file.ei_data) (slot_bytes b place) →
    HoldsTable b i × (numbers place linked strings n s.sh_type file.ei_data ≡ table_in b i)
table_gathered file b i s kind place linked strings n is below same typed there linked_is strings_is extent counted =
    let f = sections_in b in
    let type : s.sh_type ≡ (section f i).sh_type = ap (λ (t : Shdr). t.sh_type) same in
    let kinds : kind ≡ kind_of (section f i).sh_type = typed ∙ ap kind_of type in
    let read : slot_bytes b place ≡ content f i =
    ap (λ (e : Extent). slot_bytes b (slot e)) (extent ∙ ap content_extent same) ∙ sym (content_listed b i below) in
    let own = own_order file b is in (
      (
        below,
        subst (λ (t : Shdr). IsLinkThere (kind_of t.sh_type) f t) same
            (subst (λ (k : Option TableKind). IsLinkThere k f s) typed there),
      ),
      same_numbers place (content_place f i) linked _ strings _ n _ s.sh_type _ file.ei_data _
          (ap slot (extent ∙ ap content_extent same))
          (linked_is ∙ ap (λ (k : Option TableKind). linked_place k f i s.sh_link) typed ∙
          ap (λ (t : Shdr). linked_place (kind_of t.sh_type) f i t.sh_link) same)
          (strings_is ∙ ap (λ (k : Option TableKind). strings_place k f s.sh_link) typed ∙
          ap (λ (t : Shdr). strings_place (kind_of t.sh_type) f t.sh_link) same)
          (counted ∙ ap (λ (o : Order). length_in kind s.sh_type o (slot_bytes b place)) own ∙ ap (length_in kind s.sh_type (order f)) read
          ∙ ap (λ (t : ℕ). length_in kind t (order f) (content f i)) type ∙ length_by_content kind f i ∙
          ap (λ (k : Option TableKind). length_of_table k f i) kinds)
          type
          (own_data file b i is),
    ) where
      slot : Extent → Slot
      slot e = record { start = e.start; len = e.len }
