-- The numbers of a table that the accessors of its entries need, and what they say about it. (gABI chapter 4, Sections, Symbol Table,
-- Relocation; chapter 5, Note Section, Dynamic Section, Hash Table.)
use Rattle.std.specs.Prelude.{◌≡◌, ℕ, ◌<◌, Bool, List, MatchOption, Option, None, Some, SomeIff, get_or, length, slice_index, ◌/◌, ◌+◌, ◌-◌}
use Rattle.std.specs.Prelude.{◌==◌, ◌||◌, if◌then◌else◌, ◌*◌, ◌%◌, ◌≤◌, [], map, nat_lt, pos, unwrap_or}
use Rattle.std.specs.List.{before_first, range_with_len}
use Rattle.elf_c.specs.Files.{order_named}
use Rattle.elf_c.specs.declared.shapes.DynamicEntry.{DynamicEntry}
use Rattle.elf_c.specs.declared.shapes.Note.{Note}
use Rattle.elf_c.specs.declared.shapes.Relocation.{Relocation}
use Rattle.elf_c.specs.declared.shapes.Symbol.{Symbol}
use Rattle.elf_c.specs.declared.shapes.Table.{Table}
use Rattle.elf_c_parts.specs.Slots.{extent_in}
use Rattle.elf_c_parts.specs.declared.room.Slot.{Slot}
use Rattle.elf_extent.specs.declared.extent.Extent.{Extent}
use Rattle.elf_field.specs.Abi.{EI_DATA, WORD_SIZE, SHT_NULL, SHT_SYMTAB_SHNDX, SHN_XINDEX}
use Rattle.elf_field.specs.declared.dynamic.Dyn.{Dyn}
use Rattle.elf_field.specs.declared.number.Order.{Order}
use Rattle.elf_field.specs.declared.shdr.Shdr.{Shdr}
use Rattle.elf_field.specs.declared.sym.Sym.{Sym}
use Rattle.elf_image_rules.specs.Rows.{FirstIn}
use Rattle.elf_image_rules.specs.Rules.{KeepsRecordRules}
use Rattle.elf_image_rules.specs.Tables.{bytes_in, content_extent, file_counts, header, sections}
use Rattle.elf_field.specs.Strings.{string}
use Rattle.elf_table_all.specs.Tables.{table_rules}
use Rattle.elf_table_hash.specs.HashTable.{words_in}
use Rattle.elf_table_lists.specs.Dynamic.{dynamic_array_of, dynamic_entries, dynamic_entry, dynamic_entry_count, is_null_entry}
use Rattle.elf_table_lists.specs.Dynamic.{no_dynamic_entry}
use Rattle.elf_table_lists.specs.Notes.{desc_start, descsz, name_start, namesz, NoteValue, note_end, note_offset}
use Rattle.elf_table_lists.specs.Relocations.{relocations_of, has_addends, no_relocation_entry, relocation_count, relocation_in}
use Rattle.elf_table_symbols.specs.Sections.{Sections, content, count, order, section, sections_in, kind_of}
use Rattle.elf_table_symbols.specs.SymbolView.{no_symbol_entry}
use Rattle.elf_table_symbols.specs.Symbols.{index_table, symbols_of, entry_count, entry, word, SymbolEntryValue, place_of}
use Rattle.elf_table_symbols.specs.declared.table_section.TableKind.TheVariants.{SymbolTable, RelocationTable, NoteSection, DynamicArray}
use Rattle.elf_table_symbols.specs.declared.table_section.TableKind.TheVariants.{HashTable, SectionGroup}
use Rattle.elf_table_symbols.specs.declared.table_section.TableKind.{TableKind}
use Rattle.elf_table_lists.specs.declared.relocations.Relocation as listed

-- the bytes that are in a place, as far as they lie in the file
abbrev pub slot_bytes : List ℕ → Slot → List ℕ
slot_bytes b place = bytes_in b (extent_in place)

-- the place of no bytes, and that of the content of section i
abbrev pub no_place : Slot
no_place = record { start = 0; len = 0 }

abbrev pub content_place : Sections → ℕ → Slot
content_place f i = let e = content_extent (section f i) in record { start = e.start; len = e.len }

-- that of the content of an index table; of no bytes where there is none
abbrev pub index_place : Sections → Option ℕ → Slot
index_place f None = no_place
index_place f (Some j) = content_place f j

-- The notes of a content up to the first that is cut. (gABI chapter 5, Note Section.)

-- where the notes of a content begin, as many as it could have bytes
abbrev pub note_offsets : Order → List ℕ → List ℕ
note_offsets o table = map (note_offset o table 0) (range_with_len 0 (length table))

-- the note at offset x is cut: it does not end in the content
abbrev pub is_cut : Order → List ℕ → ℕ → Bool
is_cut o table x = nat_lt (length table) (note_end o table x)

-- how many notes are before the first that is cut
abbrev pub whole_notes : Order → List ℕ → ℕ
whole_notes o table = length (before_first (is_cut o table) (note_offsets o table))

-- ---- what a table of this kind in section i, which links to section `link`, is read by beside its own content

-- the index table of a symbol table, the symbol table of a hash table
abbrev pub linked_place : Option TableKind → Sections → ℕ → ℕ → Slot
linked_place (Some SymbolTable) f i link = index_place f (index_table f i)
linked_place (Some HashTable) f i link = content_place f link
linked_place _ f i link = no_place

-- the names of symbols, the strings of a dynamic array
abbrev pub strings_place : Option TableKind → Sections → ℕ → Slot
strings_place (Some SymbolTable) f link = content_place f link
strings_place (Some DynamicArray) f link = content_place f link
strings_place (Some HashTable) f link = content_place f (section f link).sh_link
strings_place _ f link = no_place

-- the accessors read a table of this kind with this section header, and the sections are there that it links to: a note section links to
-- none, and an index table, which is of no kind, to its symbol table
abbrev pub IsLinkThere : Option TableKind → Sections → Shdr → Type 0
IsLinkThere (Some SymbolTable) f s = s.sh_link < count f
IsLinkThere (Some RelocationTable) f s = s.sh_link < count f
IsLinkThere (Some SectionGroup) f s = s.sh_link < count f
IsLinkThere (Some DynamicArray) f s = s.sh_link < count f
IsLinkThere (Some HashTable) f s = (s.sh_link < count f) × ((section f s.sh_link).sh_link < count f)
IsLinkThere (Some NoteSection) f s = Unit {0}
IsLinkThere None f s = (s.sh_type ≡ SHT_SYMTAB_SHNDX) × (s.sh_link < count f)

-- the words of section i: of a group, an index table or a hash table
abbrev pub words_of : Sections → ℕ → List ℕ
words_of f i = words_in (order f) (content f i)

-- how many entries it has: a note section the notes before the first that is cut; a group, an index table and a hash table their words
abbrev pub length_of_table : Option TableKind → Sections → ℕ → ℕ
length_of_table (Some SymbolTable) f i = length (symbols_of f i)
length_of_table (Some RelocationTable) f i = length (relocations_of f i)
length_of_table (Some SectionGroup) f i = length (words_of f i)
length_of_table (Some DynamicArray) f i = length (dynamic_array_of f i)
length_of_table (Some HashTable) f i = length (words_of f i)
length_of_table (Some NoteSection) f i = whole_notes (order f) (content f i)
length_of_table None f i = length (words_of f i)

-- ---- the numbers of a table

-- section i is there, and holds a table that the accessors read
abbrev pub HoldsTable : List ℕ → ℕ → Type 0
HoldsTable b i =
    let f = sections_in b in
    let s = section f i in
    (i < count f) × IsLinkThere (kind_of s.sh_type) f s

-- the numbers of the table in section i: of what the bytes hold
abbrev pub table_in : List ℕ → ℕ → Table
table_in b i =
    let f = sections_in b in
    let s = section f i in
    let kind = kind_of s.sh_type in
    record {
      content = content_place f i;
      linked = linked_place kind f i s.sh_link;
      strings = strings_place kind f s.sh_link;
      entries = length_of_table kind f i;
      sh_type = s.sh_type;
      ei_data = slice_index f.header.e_ident EI_DATA;
    }

-- these are numbers of a table of this kind
abbrev pub IsTableOfKind : TableKind → Table → Type 0
IsTableOfKind kind t = kind_of t.sh_type ≡ Some kind

-- the bytes break none of rules 1 to 32, section i holds a table of this kind that breaks none of its rules, and these are its numbers
pub record IsTableOf (kind : TableKind) (table : Table) (b : List ℕ) (i : ℕ) : Type 0 where
  pub kept : KeepsRecordRules b
  pub there : i < count (sections_in b)
  pub typed : kind_of (section (sections_in b) i).sh_type ≡ Some kind
  pub sound : FirstIn (table_rules (sections_in b) i) None
  pub numbers : table ≡ table_in b i

-- How many entries a table has, by its content.

-- the entries of a dynamic section's content before the first one that ends the array
abbrev pub entries_before_null : Order → List ℕ → ℕ
entries_before_null o table = length (before_first is_null_entry (dynamic_entries o table (dynamic_entry_count table)))

-- of a table of this kind in a section of this type; an index table is of no kind
abbrev pub length_in : Option TableKind → ℕ → Order → List ℕ → ℕ
length_in (Some SymbolTable) type o table = entry_count table
length_in (Some RelocationTable) type o table = relocation_count (has_addends type) table
length_in (Some SectionGroup) type o table = length table / WORD_SIZE
length_in (Some NoteSection) type o table = whole_notes o table
length_in (Some DynamicArray) type o table = entries_before_null o table
length_in (Some HashTable) type o table = length table / WORD_SIZE
length_in None type o table = length table / WORD_SIZE

-- Where strings, the names of sections and what notes hold are in a file. (gABI chapter 4, Sections, String Table; chapter 5, Note
-- Section.)

-- the string at offset x of the table in this extent; one of no bytes nowhere
abbrev pub string_place : List ℕ → Extent → ℕ → Slot
string_place b table x =
    let len = length (string (bytes_in b table) x) in
    if len == 0 then no_place else record { start = table.start + x; len = len }

-- the name of section i; nowhere for an entry of type NULL, and where there is no section name string table
abbrev pub name_place : List ℕ → ℕ → Slot
name_place b i =
    let h = header b in
    let s = sections b h i in
    let k = (file_counts b).name_table in
    if (s.sh_type == SHT_NULL) || (k == 0) then no_place else string_place b (content_extent (sections b h k)) s.sh_name

-- the name, without its closing zero, and the descriptor of the note at offset x of a content that begins at offset `start` of the file
abbrev pub note_name_place : Order → List ℕ → ℕ → ℕ → Slot
note_name_place o content start x = record { start = start + name_start x; len = namesz o content x - 1 }

abbrev pub note_desc_place : Order → List ℕ → ℕ → ℕ → Slot
note_desc_place o content start x = record { start = start + desc_start o content x; len = descsz o content x }

abbrev pub NoteStandsAt : Note → Order → List ℕ → ℕ → ℕ → Type 0
NoteStandsAt n o content start x = (n.name ≡ note_name_place o content start x) × (n.desc ≡ note_desc_place o content start x)

-- The entries of tables in the shapes that C has.
-- (gABI chapter 4, Symbol Table, Relocation; chapter 5, Note Section, Dynamic Section.)

-- the symbol that the struct reports, of a file with these bytes
abbrev pub reported_symbol : List ℕ → Symbol → SymbolEntryValue
reported_symbol b s = record {
  name = slot_bytes b s.name;
  binding = s.st_info / 16;
  symbol_type = s.st_info % 16;
  other = s.st_other;
  place = place_of s.st_shndx s.section;
  value = s.st_value;
  size = s.st_size;
}

-- the entry of a symbol in its symbol table
abbrev pub symbol_record : Symbol → Sym
symbol_record s = record {
  st_name = s.st_name;
  st_info = s.st_info;
  st_other = s.st_other;
  st_shndx = s.st_shndx;
  st_value = s.st_value;
  st_size = s.st_size;
}

-- the index of the section of symbol j, of this st_shndx, in a table with these words of its index table
abbrev pub section_index : Order → List ℕ → ℕ → ℕ → ℕ
section_index o words st_shndx j = if st_shndx == SHN_XINDEX then word o words j else st_shndx

-- a symbol table has an entry j, and where this needs a word of the index table, that word
abbrev pub HasSymbol : Table → List ℕ → ℕ → Type 0
HasSymbol t b j =
    let symbols = slot_bytes b t.content in
    IsTableOfKind SymbolTable t × (j < entry_count symbols) ×
    ((entry (order_named t.ei_data) symbols j).st_shndx ≡ SHN_XINDEX → WORD_SIZE * j + WORD_SIZE ≤ length (slot_bytes b t.linked))

-- symbol j of a symbol table, by the numbers of the table
abbrev pub symbol_shape : Table → List ℕ → ℕ → Symbol
symbol_shape t b j =
    let o = order_named t.ei_data in
    let e = entry o (slot_bytes b t.content) j in
    record {
      name = string_place b (extent_in t.strings) e.st_name;
      st_value = e.st_value;
      st_size = e.st_size;
      st_name = e.st_name;
      section = section_index o (slot_bytes b t.linked) e.st_shndx j;
      st_shndx = e.st_shndx;
      st_info = e.st_info;
      st_other = e.st_other;
    }

-- a relocation: without an addend it is 0
abbrev pub relocation_shape : listed.Relocation → Relocation
relocation_shape r = record {
  r_offset = r.offset;
  r_addend = unwrap_or r.addend (pos 0);
  symbol = r.symbol;
  relocation_type = r.relocation_type;
}

-- an entry of a dynamic array
abbrev pub dynamic_shape : Dyn → DynamicEntry
dynamic_shape e = record { d_tag = e.d_tag; d_un = e.d_un }

-- the note that the struct reports, of a file with these bytes
abbrev pub reported_note : List ℕ → Note → NoteValue
reported_note b n = record { note_type = n.n_type; name = slot_bytes b n.name; desc = slot_bytes b n.desc }

-- the note used for one that isn't there
abbrev pub no_note_value : NoteValue
no_note_value = record { note_type = 0; name = []; desc = [] }

-- a note section has a note at offset x that is whole
abbrev pub HasNoteAt : Table → List ℕ → ℕ → Type 0
HasNoteAt t b x =
    let notes = slot_bytes b t.content in
    IsTableOfKind NoteSection t × (note_end (order_named t.ei_data) notes x ≤ length notes)

-- a note section has a note j that is whole, as each before it is
abbrev pub HasNote : Table → List ℕ → ℕ → Type 0
HasNote t b j = IsTableOfKind NoteSection t × (j < whole_notes (order_named t.ei_data) (slot_bytes b t.content))

-- its name and its descriptor lie in a file of len bytes
abbrev pub LiesInFile : Note → ℕ → Type 0
LiesInFile n len = (n.name.start + n.name.len ≤ len) × (n.desc.start + n.desc.len ≤ len)

-- What is found at an index: by the numbers of a table, whatever they are; and in section i of a file, if its table breaks no rule.

-- r is symbol j by the numbers of a symbol table; None if it is not there
abbrev pub ReadsSymbol : Table → List ℕ → ℕ → Option Symbol → Type 0
ReadsSymbol t b j r = SomeIff r (HasSymbol t b j) (symbol_shape t b j)

-- r says symbol j of the symbol table in section i; None if it has no more
abbrev pub ListsSymbol : List ℕ → ℕ → ℕ → Option Symbol → Type 0
ListsSymbol b i j r =
    let listed = symbols_of (sections_in b) i in
    MatchOption r (length listed ≤ j) (λ s. (j < length listed) × (reported_symbol b s ≡ get_or listed j no_symbol_entry))

-- a relocation section has an entry j
abbrev pub HasRelocation : Table → List ℕ → ℕ → Type 0
HasRelocation t b j = IsTableOfKind RelocationTable t × (j < relocation_count (has_addends t.sh_type) (slot_bytes b t.content))

-- relocation j by the numbers of a relocation section
abbrev pub relocation_read : Table → List ℕ → ℕ → Relocation
relocation_read t b j = relocation_shape (relocation_in (has_addends t.sh_type) (order_named t.ei_data) (slot_bytes b t.content) j)

-- r is relocation j by the numbers of a relocation section; None if it is not there
abbrev pub ReadsRelocation : Table → List ℕ → ℕ → Option Relocation → Type 0
ReadsRelocation t b j r = SomeIff r (HasRelocation t b j) (relocation_read t b j)

-- r is relocation j of the relocation section i; None if it has no more
abbrev pub ListsRelocation : List ℕ → ℕ → ℕ → Option Relocation → Type 0
ListsRelocation b i j r =
    let listed = relocations_of (sections_in b) i in
    SomeIff r (j < length listed) (relocation_shape (get_or listed j no_relocation_entry))

-- a dynamic array has an entry j, and no more entries than its numbers say
abbrev pub HasDynamic : Table → List ℕ → ℕ → Type 0
HasDynamic t b j = IsTableOfKind DynamicArray t × (j < dynamic_entry_count (slot_bytes b t.content)) × (j < t.entries)

-- entry j by the numbers of a dynamic array
abbrev pub dynamic_read : Table → List ℕ → ℕ → DynamicEntry
dynamic_read t b j = dynamic_shape (dynamic_entry (order_named t.ei_data) (slot_bytes b t.content) j)

-- r is entry j by the numbers of a dynamic array; None if it is not there
abbrev pub ReadsDynamic : Table → List ℕ → ℕ → Option DynamicEntry → Type 0
ReadsDynamic t b j r = SomeIff r (HasDynamic t b j) (dynamic_read t b j)

-- r is entry j of the dynamic array in section i; None if it has no more
abbrev pub ListsDynamic : List ℕ → ℕ → ℕ → Option DynamicEntry → Type 0
ListsDynamic b i j r =
    let listed = dynamic_array_of (sections_in b) i in
    SomeIff r (j < length listed) (dynamic_shape (get_or listed j no_dynamic_entry))
