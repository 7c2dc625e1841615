-- What the rules of tables look at: the header of a file, its section headers, and the content of each section.
-- (gABI chapter 4, ELF Header, Sections.)
use Rattle.std.specs.Prelude.{ℕ, List, [], length, map, get_or, ◌<◌, ◌≡◌, ◌==◌, ◌⊎◌, Option, None, Some, if◌then◌else◌, ◌≢◌, ◌+◌, ◌%◌, ◌≤◌}
use Rattle.std.specs.Prelude.{◌∷◌}
use Rattle.std.specs.List.{range_with_len}
use Rattle.elf_field.specs.Abi.{DYN_SIZE, RELA_SIZE, REL_SIZE, SHT_DYNAMIC, SHT_DYNSYM, SHT_GROUP, SHT_HASH, SHT_NOTE, SHT_REL, SHT_RELA}
use Rattle.elf_field.specs.Abi.{SHT_STRTAB, SHT_SYMTAB, SYM_SIZE, WORD_SIZE, SH_ENTSIZE_AT, SH_LINK_AT, SH_SIZE_AT, SH_TYPE_AT}
use Rattle.elf_field.specs.declared.ehdr.Ehdr.{Ehdr}
use Rattle.elf_field.specs.declared.number.Order.{Order}
use Rattle.elf_field.specs.declared.shdr.Shdr.{Shdr}
use Rattle.elf_image_outline.specs.Image.{ImageValue, section_header_of}
use Rattle.elf_image_rules.specs.Rows.{Row, Ruled, When, rule}
use Rattle.elf_image_rules.specs.ValidatedRecords.{file_of}
use Rattle.elf_image_rules.specs.Tables.{bytes_in, content_extent, header, order_of, section_header_count, sections, shdr_offset}
use Rattle.elf_table_symbols.specs.declared.sections_of.SectionsOf.TheVariants.{File, Image}
use Rattle.elf_table_symbols.specs.declared.sections_of.SectionsOf.{SectionsOf}
use Rattle.elf_table_symbols.specs.declared.table_section.TableKind.TheVariants.{SymbolTable, RelocationTable, SectionGroup, NoteSection}
use Rattle.elf_table_symbols.specs.declared.table_section.TableKind.TheVariants.{DynamicArray, HashTable}
use Rattle.elf_table_symbols.specs.declared.table_section.TableKind.{TableKind}

pub record Sections : Type 0 where
  pub header : Ehdr
  pub headers : List Shdr
  pub contents : List (List ℕ)

-- those of an image, edited or as read
abbrev pub sections_of : ImageValue → Sections
sections_of v = record { header = v.header; headers = v.sections; contents = v.contents }

-- those that a list of bytes has
unfoldable pub sections_in : List ℕ → Sections
sections_in b =
    let h = header b in
    let headers = map (sections b h) (range_with_len 0 (section_header_count h (sections b h 0))) in
    record { header = h; headers = headers; contents = map (λ s. bytes_in b (content_extent s)) headers }

-- those that are seen where tables are tested: of an image, or of the bytes of a file
abbrev pub sections_seen : SectionsOf → Sections
sections_seen (Image image) = sections_of image.now
sections_seen (File records) = sections_in (file_of records.now)

-- the section header of an index, and the section's content
abbrev pub section : Sections → ℕ → Shdr
section f i = section_header_of f.headers i

abbrev pub content : Sections → ℕ → List ℕ
content f i = get_or f.contents i []

-- how many section headers there are
abbrev pub count : Sections → ℕ
count f = length f.headers

-- the offset in the file of a section header
abbrev pub header_at : Sections → ℕ → ℕ
header_at f i = shdr_offset f.header i

abbrev pub order : Sections → Order
order f = order_of f.header.e_ident

-- The lowest index below a bound.

-- the indexes below n of which P holds
abbrev pub Below : ℕ → (ℕ → Type 0) → ℕ → Type 0
Below n P = λ j. (j < n) × P j

-- The kinds of tables, and what the section headers of those say whose entries are of one size.
-- (gABI chapter 4, Sections: sh_type, sh_link, sh_entsize.)

-- a section of this type is one that holds symbols
abbrev pub IsSymbolType : ℕ → Type 0
IsSymbolType type = (type ≡ SHT_SYMTAB) ⊎ (type ≡ SHT_DYNSYM)

-- the kind of table that a section of this type holds
abbrev pub kind_of : ℕ → Option TableKind
kind_of type =
    if type == SHT_SYMTAB then Some SymbolTable
    else (if type == SHT_DYNSYM then Some SymbolTable
    else (if type == SHT_REL then Some RelocationTable
    else (if type == SHT_RELA then Some RelocationTable
    else (if type == SHT_GROUP then Some SectionGroup
    else (if type == SHT_NOTE then Some NoteSection
    else (if type == SHT_DYNAMIC then Some DynamicArray
    else (if type == SHT_HASH then Some HashTable else None)))))))

-- the size in bytes of the entries of a table of the kind, in a section of this type; notes are of any size
abbrev pub entry_size : TableKind → ℕ → ℕ
entry_size SymbolTable type = SYM_SIZE
entry_size RelocationTable type = if type == SHT_RELA then RELA_SIZE else REL_SIZE
entry_size SectionGroup type = WORD_SIZE
entry_size NoteSection type = 1
entry_size DynamicArray type = DYN_SIZE
entry_size HashTable type = WORD_SIZE

-- a table of the kind may link to a section of this type
abbrev pub IsLinkOf : TableKind → ℕ → Type 0
IsLinkOf SymbolTable type = type ≡ SHT_STRTAB
IsLinkOf RelocationTable type = IsSymbolType type
IsLinkOf SectionGroup type = type ≡ SHT_SYMTAB
IsLinkOf NoteSection type = ⊥
IsLinkOf DynamicArray type = type ≡ SHT_STRTAB
IsLinkOf HashTable type = IsSymbolType type

-- Rules 40 and 42 to 44: what the section header of a table says of the table by itself.
-- (gABI chapter 4, Sections: sh_type, sh_size, sh_link, sh_entsize.)

-- rule 40: the section is not of a type that holds such a table
abbrev pub wrong_table_type : (ℕ → Type 0) → Sections → ℕ → Row ℕ
wrong_table_type IsType f i = When (¬ IsType (section f i).sh_type) (header_at f i + SH_TYPE_AT)

-- rule 42: the entries do not have their size
abbrev pub wrong_entry_size : TableKind → Sections → ℕ → Row ℕ
wrong_entry_size kind f i =
    let s = section f i in When (s.sh_entsize ≢ entry_size kind s.sh_type) (header_at f i + SH_ENTSIZE_AT)

-- rule 43: the last entry is cut short
abbrev pub partial_entry : TableKind → Sections → ℕ → Row ℕ
partial_entry kind f i =
    let s = section f i in When (s.sh_size % entry_size kind s.sh_type ≢ 0) (header_at f i + SH_SIZE_AT)

-- rule 44: the section that the table links to is not there, or of another type
abbrev pub wrong_link : TableKind → Sections → ℕ → Row ℕ
wrong_link kind f i =
    let link = (section f i).sh_link in
    When ((count f ≤ link) ⊎ (¬ IsLinkOf kind (section f link).sh_type)) (header_at f i + SH_LINK_AT)

unfoldable pub own_rules : TableKind → Sections → ℕ → List {1} (Ruled ℕ)
own_rules kind f i =
    rule 40 (wrong_table_type (λ type. kind_of type ≡ Some kind) f i) ∷
    rule 42 (wrong_entry_size kind f i) ∷
    rule 43 (partial_entry kind f i) ∷
    rule 44 (wrong_link kind f i) ∷ []
