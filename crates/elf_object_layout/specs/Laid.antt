-- The canonical layout of an object: the one list of bytes that it is written as.
-- (gABI chapter 4, ELF Header and Sections; where they leave a place open, the layout is this project's own.)
use Rattle.std.specs.Prelude.{ℕ, ◌+◌, ◌*◌, ◌^◌, ◌==◌, nat_le, if◌then◌else◌, Bool, false, Option, None, Some, List, [], ◌∷◌, ◌++◌, codes}
use Rattle.std.specs.Prelude.{length, map, ◌≡◌, ◌-◌, slice_index, min, ◌<◌, ◌≤◌}
use Rattle.std.specs.List.{filter, flat_map, list_any}
use Rattle.elf_extent.specs.Place.{Least, end_of}
use Rattle.elf_field.specs.Abi.{GRP_COMDAT, SHN_ABS, SHN_COMMON, SHN_LORESERVE, SHN_UNDEF, SHT_GROUP, SHT_NOBITS, SHT_REL, SHT_RELA}
use Rattle.elf_field.specs.Abi.{SHT_STRTAB, SHT_SYMTAB, SHT_SYMTAB_SHNDX, STB_LOCAL, SYM_SIZE, WORD_SIZE, EHDR_SIZE, ET_REL, EV_CURRENT}
use Rattle.elf_field.specs.Abi.{SHDR_SIZE}
use Rattle.elf_field.specs.Entries.{rel_bytes, rela_bytes, sym_bytes, word_bytes}
use Rattle.elf_field.specs.declared.ehdr.Ehdr.{Ehdr}
use Rattle.elf_field.specs.declared.number.Order.{Order}
use Rattle.elf_field.specs.declared.rel.Rel.{Rel}
use Rattle.elf_field.specs.declared.rela.Rela.{Rela}
use Rattle.elf_field.specs.declared.shdr.Shdr.{Shdr}
use Rattle.elf_field.specs.declared.sym.Sym.{Sym}
use Rattle.elf_image_rules.specs.Rules.{MAX_LEN}
use Rattle.elf_image_type.specs.WrittenFile.{identification, long_number, short_index, relocatable_bytes, short_count}
use Rattle.elf_object_strings.specs.StringTable.{name_offset, string_table}
use Rattle.elf_object_type.specs.Object.{BodyValue, bits, no_bits, relocs, group, ObjectValue, SectionValue, SymbolValue, binding}
use Rattle.elf_object_type.specs.declared.parts.Info.{Info}
use Rattle.elf_object_type.specs.declared.parts.Place.TheVariants.{Undef, Abs, Common, In}
use Rattle.elf_object_type.specs.declared.parts.Place.{Place}
use Rattle.elf_object_type.specs.declared.relocations.Relocation.{Relocation}
use Rattle.elf_object_layout.specs.declared.layout.LayoutFault.TheVariants.{TooLong, OutOfMemory}
use Rattle.elf_object_layout.specs.declared.layout.LayoutFault.{LayoutFault}
use Rattle.elf_object_type.specs.declared.parts.Info.TheVariants as info

-- The sections of an object as their section headers have them, in the order of the canonical layout: the object's own, and after them the
-- symbol table, its index table where there is one, its string table, and the section name string table. (gABI chapter 4: Sections, Symbol
-- Table, Relocation, Section Groups. Position p has section index p + 1.)

-- a section header's fields but for sh_name, sh_offset and sh_size, with the name and the content; of a section that takes no
-- bytes in the file `space` is the size
pub record PlainSection : Type 0 where
  pub name : List ℕ
  pub type : ℕ
  pub flags : ℕ
  pub addr : ℕ
  pub link : ℕ
  pub info : ℕ
  pub align : ℕ
  pub entsize : ℕ
  pub space : ℕ
  pub content : List ℕ

-- ---- indexes

-- a position that may be missing, as an index
abbrev pub index_of : Option ℕ → ℕ
index_of None = 0
index_of (Some position) = position + 1

-- a symbol in a section whose index its st_shndx can't hold
abbrev pub is_far : Place → Bool
is_far Undef = false
is_far Abs = false
is_far Common = false
is_far (In position) = nat_le SHN_LORESERVE (position + 1)

-- the symbols need an index table
abbrev pub has_index_table : ObjectValue → Bool
has_index_table o = list_any (λ s. is_far s.place) o.symbols

-- the section indexes of the four last sections; where there is no index table, its string table takes its place
abbrev pub symbol_table_at : ObjectValue → ℕ
symbol_table_at o = length o.sections + 1

abbrev pub strings_at : ObjectValue → ℕ
strings_at o = symbol_table_at o + (if has_index_table o then 2 else 1)

abbrev pub name_table_at : ObjectValue → ℕ
name_table_at o = strings_at o + 1

-- ---- symbols

abbrev pub symbol_names : ObjectValue → List (List ℕ)
symbol_names o = map (λ s. s.name) o.symbols

-- st_shndx, and the word of the index table
abbrev pub shndx : Place → ℕ
shndx Undef = SHN_UNDEF
shndx Abs = SHN_ABS
shndx Common = SHN_COMMON
shndx (In position) = short_index (position + 1)

abbrev pub index_word : Place → ℕ
index_word Undef = 0
index_word Abs = 0
index_word Common = 0
index_word (In position) = long_number (position + 1)

abbrev pub symbol_entry : ObjectValue → SymbolValue → Sym
symbol_entry o s = record {
  st_name = name_offset (symbol_names o) s.name;
  st_info = s.info;
  st_other = s.other;
  st_shndx = shndx s.place;
  st_value = s.value;
  st_size = s.size;
}

abbrev pub null_symbol : Sym
null_symbol = record { st_name = 0; st_info = 0; st_other = 0; st_shndx = SHN_UNDEF; st_value = 0; st_size = 0 }

abbrev pub is_local : SymbolValue → Bool
is_local s = binding s == STB_LOCAL

-- the alignment of the symbol table and of the section header table, whose records have fields of eight bytes
abbrev pub RECORD_ALIGNMENT : ℕ
RECORD_ALIGNMENT = 8

abbrev pub symbol_table_section : ObjectValue → PlainSection
symbol_table_section o = record {
  name = codes ".symtab";
  type = SHT_SYMTAB;
  flags = 0;
  addr = 0;
  link = strings_at o;
  info = 1 + length (filter is_local o.symbols);
  align = RECORD_ALIGNMENT;
  entsize = SYM_SIZE;
  space = 0;
  content = flat_map (sym_bytes o.order) (null_symbol ∷ map (symbol_entry o) o.symbols);
}

abbrev pub index_table_section : ObjectValue → PlainSection
index_table_section o = record {
  name = codes ".symtab_shndx";
  type = SHT_SYMTAB_SHNDX;
  flags = 0;
  addr = 0;
  link = symbol_table_at o;
  info = 0;
  align = WORD_SIZE;
  entsize = WORD_SIZE;
  space = 0;
  content = flat_map (word_bytes o.order) (0 ∷ map (λ s. index_word s.place) o.symbols);
}

-- a string table of some names
abbrev pub strings : List ℕ → List (List ℕ) → PlainSection
strings name names = record {
  name = name;
  type = SHT_STRTAB;
  flags = 0;
  addr = 0;
  link = 0;
  info = 0;
  align = 1;
  entsize = 0;
  space = 0;
  content = string_table names;
}

-- ---- the object's own sections

abbrev pub relocation_section_type : Bool → ℕ
relocation_section_type rela = if rela then SHT_RELA else SHT_REL

-- r_info: the symbol's index above the type
abbrev pub relocation_info : Relocation → ℕ
relocation_info r = index_of r.symbol * 2 ^ 32 + r.kind

abbrev pub rela_entry : Relocation → Rela
rela_entry r = record { r_offset = r.offset; r_info = relocation_info r; r_addend = r.addend }

abbrev pub rel_entry : Relocation → Rel
rel_entry r = record { r_offset = r.offset; r_info = relocation_info r }

abbrev pub relocation_bytes : Order → Bool → List Relocation → List ℕ
relocation_bytes order rela entries =
    if rela then flat_map (rela_bytes order) (map rela_entry entries) else flat_map (rel_bytes order) (map rel_entry entries)

abbrev pub group_words : Bool → List ℕ → List ℕ
group_words comdat members = (if comdat then GRP_COMDAT else 0) ∷ map (λ member. member + 1) members

abbrev pub body_type : BodyValue → ℕ
body_type (bits type content) = type
body_type (no_bits size) = SHT_NOBITS
body_type (relocs rela target entries) = relocation_section_type rela
body_type (group comdat signature members) = SHT_GROUP

abbrev pub body_bytes : Order → BodyValue → List ℕ
body_bytes order (bits type content) = content
body_bytes order (no_bits size) = []
body_bytes order (relocs rela target entries) = relocation_bytes order rela entries
body_bytes order (group comdat signature members) = flat_map (word_bytes order) (group_words comdat members)

abbrev pub body_space : BodyValue → ℕ
body_space (bits type content) = 0
body_space (no_bits size) = size
body_space (relocs rela target entries) = 0
body_space (group comdat signature members) = 0

-- sh_link and sh_info: the section's own, but where the body gives them a meaning
abbrev pub body_link : ObjectValue → SectionValue → BodyValue → ℕ
body_link o s (bits type content) = index_of s.link
body_link o s (no_bits size) = index_of s.link
body_link o s (relocs rela target entries) = symbol_table_at o
body_link o s (group comdat signature members) = symbol_table_at o

abbrev pub own_info : Info → ℕ
own_info (info.Number number) = number
own_info (info.Section position) = position + 1

abbrev pub body_info : SectionValue → BodyValue → ℕ
body_info s (bits type content) = own_info s.info
body_info s (no_bits size) = own_info s.info
body_info s (relocs rela target entries) = target + 1
body_info s (group comdat signature members) = signature + 1

abbrev pub own_section : ObjectValue → SectionValue → PlainSection
own_section o s = record {
  name = s.name;
  type = body_type s.body;
  flags = s.flags;
  addr = s.addr;
  link = body_link o s s.body;
  info = body_info s s.body;
  align = s.align;
  entsize = s.entsize;
  space = body_space s.body;
  content = body_bytes o.order s.body;
}

-- ---- all of them, from section index 1 on

-- but for the last one, which holds the names of all
unfoldable pub sections_before_names : ObjectValue → List PlainSection
sections_before_names o =
    map (own_section o) o.sections ++
    (symbol_table_section
    o ∷ ((if has_index_table o then index_table_section o ∷ [] else []) ++ (strings (codes ".strtab") (symbol_names o) ∷ [])))

unfoldable pub section_names : ObjectValue → List (List ℕ)
section_names o = map (λ s. s.name) (sections_before_names o) ++ (codes ".shstrtab" ∷ [])

unfoldable pub plain_sections : ObjectValue → List PlainSection
plain_sections o = sections_before_names o ++ (strings (codes ".shstrtab") (section_names o) ∷ [])

-- ---- the parts after the header: each content, and the section header table at a multiple of 8

-- sh_size
abbrev pub section_size : PlainSection → ℕ
section_size s = if s.type == SHT_NOBITS then s.space else length s.content

-- a content as (size, alignment): one without bytes in the file begins where the part before it ends
abbrev pub content_part : PlainSection → ℕ × ℕ
content_part s = (length s.content, if s.type == SHT_NOBITS then 1 else s.align)

unfoldable pub layout_parts : List PlainSection → List (ℕ × ℕ)
layout_parts sections = map content_part sections ++ ((SHDR_SIZE * (length sections + 1), RECORD_ALIGNMENT) ∷ [])

-- ---- the records

-- the section headers from index 1 on, of sections whose contents are at these places
abbrev pub section_header : (List ℕ → ℕ) → PlainSection → ℕ → Shdr
section_header name_at s place = record {
  sh_name = name_at s.name;
  sh_type = s.type;
  sh_flags = s.flags;
  sh_addr = s.addr;
  sh_offset = place;
  sh_size = section_size s;
  sh_link = s.link;
  sh_info = s.info;
  sh_addralign = s.align;
  sh_entsize = s.entsize;
}

abbrev pub section_headers : (List ℕ → ℕ) → List PlainSection → List ℕ → List Shdr
section_headers name_at [] places = []
section_headers name_at (s ∷ sections) [] = []
section_headers name_at (s ∷ sections) (place ∷ places) = section_header name_at s place ∷ section_headers name_at sections places

-- the header of a file of so many section headers, whose section header table is at this offset
abbrev pub file_header : ObjectValue → ℕ → ℕ → Ehdr
file_header o count table = record {
  e_ident = identification o.order o.osabi o.abi;
  e_type = ET_REL;
  e_machine = o.machine;
  e_version = EV_CURRENT;
  e_entry = 0;
  e_phoff = 0;
  e_shoff = table;
  e_flags = o.flags;
  e_ehsize = EHDR_SIZE;
  e_phentsize = 0;
  e_phnum = 0;
  e_shentsize = SHDR_SIZE;
  e_shnum = short_count count;
  e_shstrndx = short_index (name_table_at o);
}

-- ---- the file

-- the bytes with these places: the header, the contents and the section header table, with zeros between
unfoldable pub layout_bytes : ObjectValue → List ℕ → List ℕ
layout_bytes o places =
    let sections = plain_sections o in
    let count = length sections + 1 in
    relocatable_bytes (file_header o count (slice_index places (length sections)))
    (section_headers (name_offset (section_names o)) sections places) (map (λ s. s.content) sections) (name_table_at o)

-- b is the object in canonical layout: its parts are as low as they can be
pub record Laid (o : ObjectValue) (b : List ℕ) : Type 0 where
  pub places : List ℕ
  pub least : Least (layout_parts (plain_sections o)) EHDR_SIZE places
  pub bytes : b ≡ layout_bytes o places

-- The sizes of parts as numbers of 64 bits: the largest one represents all that are larger.

abbrev pub LARGEST : ℕ
LARGEST = 0xffffffffffffffff

-- a part (size, alignment) with its size so
abbrev pub saturated : ℕ × ℕ → ℕ × ℕ
saturated part = (min part.0 LARGEST, part.1)

-- What `lay_out` returns for an object.

-- where the contents from section index 1 on begin, and after them the section header table; and the length of the file
pub record LayoutValue : Type 0 where
  pub places : List ℕ
  pub file_len : ℕ

-- parts at their least places in a file that is not too long
pub record ArePlacedParts (parts : List (ℕ × ℕ)) (layout : LayoutValue) : Type 0 where
  pub least : Least parts EHDR_SIZE layout.places
  pub file_len : layout.file_len ≡ end_of parts layout.places (length parts - 1)
  pub short : layout.file_len ≤ MAX_LEN

-- the parts at their least places end after the longest file
abbrev pub AreTooLong : List (ℕ × ℕ) → Type 0
AreTooLong parts = (places : List ℕ) → Least parts EHDR_SIZE places → MAX_LEN < end_of parts places (length parts - 1)

abbrev pub ArePartsFault : List (ℕ × ℕ) → LayoutFault → Type 0
ArePartsFault parts TooLong = AreTooLong parts
ArePartsFault parts OutOfMemory = Unit {0}

-- the layout of an object: the places and the length of its canonical layout
pub record IsLayoutOf (o : ObjectValue) (layout : LayoutValue) : Type 0 where
  pub least : Least (layout_parts (plain_sections o)) EHDR_SIZE layout.places
  pub count : length layout.places ≡ length (plain_sections o) + 1
  pub file_len : layout.file_len ≡ length (layout_bytes o layout.places)
  pub short : layout.file_len ≤ MAX_LEN

-- the canonical layout is too long; out of memory says nothing
abbrev pub IsLayoutFault : ObjectValue → LayoutFault → Type 0
IsLayoutFault o TooLong = (b : List ℕ) → Laid o b → MAX_LEN < length b
IsLayoutFault o OutOfMemory = Unit {0}
