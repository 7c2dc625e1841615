-- The object that a relocatable file denotes. (gABI chapter 4: ELF Header, Sections, Symbol Table, Relocation, Section Groups.) A reserved
-- index reads as undefined, so that the definition is total: rule 75 refuses the index first. `Denotes` is about a header, section headers
-- and contents (`Sections`), as the rules of tables are. The law `sections_of_bytes` connects it with bytes.
use Rattle.std.specs.Prelude.{ℕ, ◌==◌, ◌||◌, if◌then◌else◌, Option, None, Some, List, filter, length, ◌≡◌, ◌+◌, ◌-◌, ◌*◌, [], bit_and, drop}
use Rattle.std.specs.Prelude.{map, pos, slice_index, unwrap_or}
use Rattle.std.specs.List.{range_with_len}
use Rattle.elf_field.specs.Abi.{SHT_GROUP, SHT_NOBITS, SHT_NULL, SHT_REL, SHT_RELA, EI_ABIVERSION, EI_OSABI, GRP_COMDAT, SHF_INFO_LINK}
use Rattle.elf_field.specs.declared.shdr.Shdr.{Shdr}
use Rattle.elf_image_outline.specs.Image.{value_names}
use Rattle.elf_field.specs.Strings.{string}
use Rattle.elf_object_reader.specs.declared.object_file.BodyKind.TheVariants.{Bits, NoBits, Relocs, Group}
use Rattle.elf_object_reader.specs.declared.object_file.BodyKind.{BodyKind}
use Rattle.elf_object_layout.specs.SectionsLeftOut.{is_kept, left_out, symbol_table}
use Rattle.elf_object_layout.specs.declared.left_out.LeftOut.{LeftOut}
use Rattle.elf_object_type.specs.Object.{symbol_reference, BodyValue, bits, no_bits, relocs, group, ObjectValue, SectionValue, SymbolValue}
use Rattle.elf_object_type.specs.declared.parts.Info.{Info}
use Rattle.elf_object_type.specs.declared.parts.Place.{Place}
use Rattle.elf_object_type.specs.declared.relocations.Relocation.{Relocation}
use Rattle.elf_table_lists.specs.Groups.{group_of}
use Rattle.elf_table_lists.specs.Relocations.{has_addends, relocations_of}
use Rattle.elf_table_symbols.specs.Sections.{Sections, count, section, content, order}
use Rattle.elf_table_symbols.specs.Symbols.{index_table, symbols_of}
use Rattle.elf_table_symbols.specs.declared.symbols.Place.TheVariants.{Undefined, Absolute, Common, Reserved, Section}
use Rattle.elf_table_symbols.specs.declared.symbols.Place as table_place
use Rattle.elf_table_symbols.specs.Symbols as table_symbols
use Rattle.elf_table_lists.specs.declared.relocations.Relocation as table_relocation
use Rattle.elf_object_type.specs.declared.parts.Info.TheVariants as info
use Rattle.elf_object_type.specs.declared.parts.Place.TheVariants as place

-- Which sections of a file an object keeps, and where each is among them. (gABI chapter 4, Sections, String Table, Symbol Table.) An index
-- counts the file's section headers, a position the sections that are kept.

-- the indexes of the sections that it keeps, ascending
abbrev pub kept : LeftOut → Sections → List ℕ
kept left f = filter (is_kept left f) (range_with_len 0 (count f))

-- the position of section i: how many sections before it are kept
abbrev pub position_of : LeftOut → Sections → ℕ → ℕ
position_of left f i = length (filter (is_kept left f) (range_with_len 0 i))

-- what a section of this type holds
abbrev pub body_kind : ℕ → BodyKind
body_kind type =
    if type == SHT_NOBITS then NoBits
    else (if (type == SHT_RELA) || (type == SHT_REL) then Relocs
    else (if type == SHT_GROUP then Group else Bits))

-- the section name string table
abbrev pub section_name_table : Sections → List ℕ
section_name_table f = value_names f.header f.headers f.contents

-- the name of section i: a string of it
abbrev pub section_name_of : Sections → ℕ → List ℕ
section_name_of f i =
    let s = section f i in
    if s.sh_type == SHT_NULL then [] else string (section_name_table f) s.sh_name

-- section k as a position: index 0 is none
abbrev pub section_reference : LeftOut → Sections → ℕ → Option ℕ
section_reference left f k = if k == 0 then None else Some (position_of left f k)

-- a relocation of a relocation section
abbrev pub relocation_denoted : table_relocation.Relocation → Relocation
relocation_denoted r = record {
  offset = r.offset;
  symbol = symbol_reference r.symbol;
  kind = r.relocation_type;
  addend = unwrap_or r.addend (pos 0);
}

-- what section i holds
abbrev pub body_denoted : LeftOut → Sections → ℕ → BodyKind → BodyValue
body_denoted left f i Bits = bits (section f i).sh_type (content f i)
body_denoted left f i NoBits = no_bits (section f i).sh_size
body_denoted left f i Relocs =
    let s = section f i in
    relocs (has_addends s.sh_type) (position_of left f s.sh_info) (map relocation_denoted (relocations_of f i))
body_denoted left f i Group =
    let g = group_of f i in
    group (g.flags == GRP_COMDAT) (g.signature - 1) (map (position_of left f) g.members)

-- its link and its info, which relocations and groups have given a meaning of their own
abbrev pub link_denoted : LeftOut → Sections → Shdr → BodyKind → Option ℕ
link_denoted left f s Bits = section_reference left f s.sh_link
link_denoted left f s NoBits = section_reference left f s.sh_link
link_denoted left f s Relocs = None
link_denoted left f s Group = None

abbrev pub plain_info : LeftOut → Sections → Shdr → Info
plain_info left f s =
    if bit_and s.sh_flags SHF_INFO_LINK == 0 then info.Number s.sh_info else info.Section (position_of left f s.sh_info)

abbrev pub info_denoted : LeftOut → Sections → Shdr → BodyKind → Info
info_denoted left f s Bits = plain_info left f s
info_denoted left f s NoBits = plain_info left f s
info_denoted left f s Relocs = info.Number 0
info_denoted left f s Group = info.Number 0

-- section i
unfoldable pub section_denoted : LeftOut → Sections → ℕ → SectionValue
section_denoted left f i =
    let s = section f i in
    let kind = body_kind s.sh_type in
    record {
      name = section_name_of f i;
      flags = s.sh_flags;
      addr = s.sh_addr;
      align = s.sh_addralign;
      entsize = s.sh_entsize;
      link = link_denoted left f s kind;
      info = info_denoted left f s kind;
      body = body_denoted left f i kind;
    }

-- where a symbol is defined; a reserved index that is neither absolute nor common is refused
abbrev pub place_denoted : LeftOut → Sections → table_place.Place → Place
place_denoted left f Undefined = place.Undef
place_denoted left f Absolute = place.Abs
place_denoted left f Common = place.Common
place_denoted left f (Reserved index) = place.Undef
place_denoted left f (Section k) = place.In (position_of left f k)

abbrev pub symbol_denoted : LeftOut → Sections → table_symbols.SymbolEntryValue → SymbolValue
symbol_denoted left f s = record {
  name = s.name;
  info = 16 * s.binding + s.symbol_type;
  other = s.other;
  place = place_denoted left f s.place;
  value = s.value;
  size = s.size;
}

-- the symbols of the symbol table from symbol 1 on; none where there is no symbol table
abbrev pub symbols_denoted : LeftOut → Sections → Option ℕ → List SymbolValue
symbols_denoted left f None = []
symbols_denoted left f (Some t) = map (symbol_denoted left f) (drop 1 (symbols_of f t))

-- a file with these sections denotes the object
pub record Denotes (f : Sections) (o : ObjectValue) : Type 0 where
  pub order : o.order ≡ order f
  pub osabi : o.osabi ≡ slice_index f.header.e_ident EI_OSABI
  pub abi : o.abi ≡ slice_index f.header.e_ident EI_ABIVERSION
  pub machine : o.machine ≡ f.header.e_machine
  pub flags : o.flags ≡ f.header.e_flags
  pub sections : o.sections ≡ map (section_denoted (left_out f) f) (kept (left_out f) f)
  pub symbols : o.symbols ≡ symbols_denoted (left_out f) f (symbol_table f)

-- and no other one
abbrev pub DenotesOnly : Sections → ObjectValue → Type 0
DenotesOnly f o = Denotes f o × ((other : ObjectValue) → Denotes f other → other ≡ o)
