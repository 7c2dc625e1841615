-- Where in a file a rule of the link is broken. (gABI chapter 4: Sections, Symbol Table, Relocation.) A rule names a section, a symbol or a
-- section of relocations by its position in the object that the file denotes. A place has the index of a section header, and offsets of the
-- file.
use Rattle.std.specs.Prelude.{◌≡◌, ◌<◌, ◌≤◌, ◌+◌, ◌*◌, ◌⊎◌, ◌&&◌, ◌||◌, [], ℕ, List, MatchOption, None, Option, Some, get_or}
use Rattle.std.specs.Prelude.{if◌then◌else◌, length, nat_lt, true}
use Rattle.elf_extent.specs.declared.extent.Extent.{Extent}
use Rattle.elf_field.specs.Abi.{SHDR_SIZE, SYM_SIZE, relocation_size}
use Rattle.elf_field.specs.Strings.{string}
use Rattle.elf_image_outline.specs.Image.{ImageValue, IsImage}
use Rattle.elf_image_rules.specs.Rules.{IsFault}
use Rattle.elf_link_files.specs.declared.site.Site.{Site}
use Rattle.elf_object_layout.specs.SectionsLeftOut.{is_kept, left_out, symbol_table}
use Rattle.elf_object_reader.specs.Denotes.{position_of}
use Rattle.elf_table_lists.specs.Relocations.{has_addends, relocation_count, relocation_in}
use Rattle.elf_table_symbols.specs.Sections.{Sections, content, count, header_at, order, section, sections_of}
use Rattle.elf_table_symbols.specs.Symbols.{entry, entry_count}
use Rattle.elf_tool_link.specs.declared.places.RecordPlace.{RecordPlace}
use Rattle.elf_tool_link.specs.declared.places.Subject.{Subject}
use Rattle.elf_tool_link.specs.declared.places.Subject.TheVariants as subject

-- what a rule of the link is about: rules 3 to 5 a section, 6 to 9 a symbol, 12 to 16 a relocation; the others no record
abbrev pub subject_of : ℕ → Option Subject
subject_of rule =
    if nat_lt rule 3 || (nat_lt 9 rule && nat_lt rule 12 || nat_lt 16 rule) then None
    else (if nat_lt rule 6 then Some subject.Section
    else (if nat_lt rule 10 then Some subject.Symbol else Some subject.Entry))

-- ---- a section by its position

-- section i is kept, and so many sections before it are
abbrev pub IsKeptAt : Sections → ℕ → ℕ → Type 0
IsKeptAt f k i = (i < count f) × (is_kept (left_out f) f i ≡ true) × (position_of (left_out f) f i ≡ k)

abbrev pub NoneKeptAt : Sections → ℕ → Type 0
NoneKeptAt f k = (i : ℕ) → IsKeptAt f k i → ⊥

-- ---- places

abbrev pub no_extent : Extent
no_extent = record { start = 0; len = 0 }

-- where the string at an offset of the string table in section i is, without its closing zero; nowhere if it has no bytes
abbrev pub string_extent_of : Sections → ℕ → ℕ → Extent
string_extent_of f i offset =
    let n = length (string (content f i) offset) in
    if nat_lt i (count f) && nat_lt 0 n then record { start = (section f i).sh_offset + offset; len = n } else no_extent

-- that of the name of symbol j of the symbol table in section t; nowhere if there is no such symbol
abbrev pub name_of_symbol : Sections → ℕ → ℕ → Extent
name_of_symbol f t j =
    if nat_lt t (count f) && nat_lt j (entry_count (content f t))
    then string_extent_of f (section f t).sh_link (entry (order f) (content f t) j).st_name
    else no_extent

-- the section header of section i
abbrev pub section_place_of : Sections → ℕ → RecordPlace
section_place_of f i =
    record { section = i; entry = 0; bytes = record { start = header_at f i; len = SHDR_SIZE }; name = no_extent }

-- symbol j of the symbol table in section t
abbrev pub symbol_place_of : Sections → ℕ → ℕ → RecordPlace
symbol_place_of f t j = record {
  section = t;
  entry = j;
  bytes = record { start = (section f t).sh_offset + SYM_SIZE * j; len = SYM_SIZE };
  name = name_of_symbol f t j;
}

-- the section of relocations i has an entry j
abbrev pub HasEntryOf : Sections → ℕ → ℕ → Type 0
HasEntryOf f i j = j < relocation_count (has_addends (section f i).sh_type) (content f i)

-- the symbol that entry j of the section of relocations i refers to
abbrev pub symbol_of_entry : Sections → ℕ → ℕ → ℕ
symbol_of_entry f i j = (relocation_in (has_addends (section f i).sh_type) (order f) (content f i) j).symbol

abbrev pub entry_place_of : Sections → ℕ → ℕ → RecordPlace
entry_place_of f i j =
    let s = section f i in
    let size = relocation_size (has_addends s.sh_type) in
    record {
      section = i;
      entry = j;
      bytes = record { start = s.sh_offset + size * j; len = size };
      name = name_of_symbol f s.sh_link (symbol_of_entry f i j);
    }

-- the symbol table in section t has a symbol at a position: symbol 0 is none
abbrev pub HasSymbolAt : Sections → ℕ → ℕ → Type 0
HasSymbolAt f t k = k + 1 < entry_count (content f t)

-- a record is the one that a rule is about, by the positions that the rule has: of a section, of a symbol, or of a section of relocations
-- with an entry of it
abbrev pub IsRecordIn : Sections → Subject → ℕ → ℕ → RecordPlace → Type 0
IsRecordIn f subject.Section k j place = (i : ℕ) × IsKeptAt f k i × (place ≡ section_place_of f i)
IsRecordIn f subject.Symbol k j place =
    (t : ℕ) × (symbol_table f ≡ Some t) × HasSymbolAt f t k × (place ≡ symbol_place_of f t (k + 1))
IsRecordIn f subject.Entry k j place = (i : ℕ) × IsKeptAt f k i × HasEntryOf f i j × (place ≡ entry_place_of f i j)

-- there is no such section, or symbol, or entry
abbrev pub IsNoRecordIn : Sections → Subject → ℕ → ℕ → Type 0
IsNoRecordIn f subject.Section k j = NoneKeptAt f k
IsNoRecordIn f subject.Symbol k j = (symbol_table f ≡ None) ⊎ ((t : ℕ) × (symbol_table f ≡ Some t) × ¬ HasSymbolAt f t k)
IsNoRecordIn f subject.Entry k j = NoneKeptAt f k ⊎ ((i : ℕ) × IsKeptAt f k i × ¬ HasEntryOf f i j)

-- ---- of files

-- the bytes of a file; none if there is no such file
abbrev pub file_at : List (List ℕ) → ℕ → List ℕ
file_at files f = get_or files f []

-- a file is an image, and the record is the one in it, or there is none; or it is no image, and there is none
abbrev pub IsRecordOf : List ℕ → Subject → ℕ → ℕ → Option RecordPlace → Type 0
IsRecordOf b about k j found =
    ((v : ImageValue) × IsImage v b × MatchOption found (IsNoRecordIn (sections_of v) about k j) (IsRecordIn (sections_of v) about k j))
    ⊎ (((rule : ℕ) × (at : ℕ) × IsFault b (Some (rule, at))) × (found ≡ None))

-- the record that a rule of the link is about, of files and a site; none if the rule is about no record, or there is no such file
abbrev pub IsRecordAt : List (List ℕ) → Option Subject → Site → Option RecordPlace → Type 0
IsRecordAt files None site found = found ≡ None
IsRecordAt files (Some about) site found =
    ((site.file < length files) × IsRecordOf (file_at files site.file) about site.index site.entry found)
    ⊎ ((length files ≤ site.file) × (found ≡ None))
