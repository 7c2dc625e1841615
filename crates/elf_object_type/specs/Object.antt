-- An object as a value: what contracts see of it. (gABI chapter 4: ELF Header, Sections, Symbol Table, Relocation.)
-- A position is an index in the list of sections or of symbols, from 0.
use Rattle.std.specs.Prelude.{ℕ, ◌/◌, ◌%◌, Bool, Option, None, List, [], get_or, pos, ◌≡◌, ◌≢◌, ◌≤◌, true, false, Some, bit_and, Contains}
use Rattle.std.specs.Prelude.{◌<◌, ◌^◌, FitsSigned, ◌*◌, ◌-◌, ◌==◌, if◌then◌else◌, length, map}
use Rattle.std.specs.Int.{w64}
use Rattle.std.specs.List.{AllByRecursion, range_with_len}
use Rattle.elf_field.specs.Abi.{RELA_SIZE, REL_SIZE, relocation_size}
use Rattle.elf_field.specs.Bytes.{IsBytes}
use Rattle.elf_field.specs.Entries.{rel_at, rela_at}
use Rattle.elf_field.specs.declared.number.Order.{Order}
use Rattle.elf_object_type.specs.declared.parts.Info.TheVariants.{Number, Section}
use Rattle.elf_object_type.specs.declared.parts.Info.{Info}
use Rattle.elf_object_type.specs.declared.parts.Place.TheVariants.{Undef}
use Rattle.elf_object_type.specs.declared.parts.Place.{Place}
use Rattle.elf_object_type.specs.declared.relocations.Listed.TheVariants.{List as InList, Table}
use Rattle.elf_object_type.specs.declared.relocations.Listed.{Listed}
use Rattle.elf_object_type.specs.declared.relocations.Relocation.{Relocation}
use Rattle.elf_object_type.specs.declared.relocations.RelocationTable.{RelocationTable}

-- what a section holds: a type and bytes; a size without bytes; with addends or not, the target and the entries; COMDAT or
-- not, the signature symbol and the members
pub data BodyValue : Type 0 where
  bits : ℕ → List ℕ → BodyValue
  no_bits : ℕ → BodyValue
  relocs : Bool → ℕ → List Relocation → BodyValue
  group : Bool → ℕ → List ℕ → BodyValue

pub record SectionValue : Type 0 where
  pub name : List ℕ
  pub flags : ℕ
  pub addr : ℕ
  pub align : ℕ
  pub entsize : ℕ
  pub link : Option ℕ
  pub info : Info
  pub body : BodyValue

pub record SymbolValue : Type 0 where
  pub name : List ℕ
  pub info : ℕ
  pub other : ℕ
  pub place : Place
  pub value : ℕ
  pub size : ℕ

pub record ObjectValue : Type 0 where
  pub order : Order
  pub osabi : ℕ
  pub abi : ℕ
  pub machine : ℕ
  pub flags : ℕ
  pub sections : List SectionValue
  pub symbols : List SymbolValue

-- those used for one that isn't there
abbrev pub no_relocation : Relocation
no_relocation = record { offset = 0; symbol = None; kind = 0; addend = pos 0 }

abbrev pub no_section : SectionValue
no_section = record { name = []; flags = 0; addr = 0; align = 0; entsize = 0; link = None; info = Number 0; body = no_bits 0 }

abbrev pub no_symbol : SymbolValue
no_symbol = record { name = []; info = 0; other = 0; place = Undef; value = 0; size = 0 }

-- a symbol's binding is the upper half of its info, its type the lower one
abbrev pub binding : SymbolValue → ℕ
binding s = s.info / 16

abbrev pub symbol_type : SymbolValue → ℕ
symbol_type s = s.info % 16

-- the section and the symbol at a position
abbrev pub section_at : ObjectValue → ℕ → SectionValue
section_at o i = get_or o.sections i no_section

abbrev pub symbol_at : ObjectValue → ℕ → SymbolValue
symbol_at o i = get_or o.symbols i no_symbol

-- References from one section or symbol of an object to another: positions, and the flags that go with them.

-- a section with these flags has this one, or lacks it
abbrev pub HasFlag : ℕ → ℕ → Type 0
HasFlag flags flag = bit_and flags flag ≢ 0

abbrev pub LacksFlag : ℕ → ℕ → Type 0
LacksFlag flags flag = bit_and flags flag ≡ 0

-- a position that may be missing is not below the count
abbrev pub IsPast : ℕ → Option ℕ → Type 0
IsPast count None = ⊥
IsPast count (Some position) = count ≤ position

-- the position in `info`, where it is one
abbrev pub info_position : Info → Option ℕ
info_position (Number number) = None
info_position (Section position) = Some position

-- the members of a group; a section with another body has none
abbrev pub members_of : BodyValue → List ℕ
members_of (bits type content) = []
members_of (no_bits size) = []
members_of (relocs rela target entries) = []
members_of (group comdat signature members) = members

abbrev pub is_group : BodyValue → Bool
is_group (bits type content) = false
is_group (no_bits size) = false
is_group (relocs rela target entries) = false
is_group (group comdat signature members) = true

abbrev pub is_bits : BodyValue → Bool
is_bits (bits type content) = true
is_bits (no_bits size) = false
is_bits (relocs rela target entries) = false
is_bits (group comdat signature members) = false

-- a name has a zero byte
abbrev pub HasZero : List ℕ → Type 0
HasZero name = Contains name 0

-- The numbers of an object fit the fields of the file that hold them, and its names and bits are bytes.
-- (gABI chapter 4: Data Representation, ELF Header, Sections, Symbol Table, Relocation.)
-- The types of the code see to that: a value of these types has nothing else.

pub record RelocationFits (r : Relocation) : Type 0 where
  pub offset : r.offset < 2 ^ 64
  pub kind : r.kind < 2 ^ 32
  pub addend : FitsSigned w64 r.addend

-- positions fit no field by themselves: how many there are follows from the length of the file
abbrev pub InfoFits : Info → Type 0
InfoFits (Number number) = number < 2 ^ 32
InfoFits (Section position) = Unit {0}

abbrev pub BodyFits : BodyValue → Type 0
BodyFits (bits type content) = (type < 2 ^ 32) × IsBytes content
BodyFits (no_bits size) = size < 2 ^ 64
BodyFits (relocs rela target entries) = AllByRecursion RelocationFits entries
BodyFits (group comdat signature members) = Unit {0}

pub record SectionFits (s : SectionValue) : Type 0 where
  pub name : IsBytes s.name
  pub flags : s.flags < 2 ^ 64
  pub addr : s.addr < 2 ^ 64
  pub align : s.align < 2 ^ 64
  pub entsize : s.entsize < 2 ^ 64
  pub info : InfoFits s.info
  pub body : BodyFits s.body

pub record SymbolFits (s : SymbolValue) : Type 0 where
  pub name : IsBytes s.name
  pub info : s.info < 2 ^ 8
  pub other : s.other < 2 ^ 8
  pub value : s.value < 2 ^ 64
  pub size : s.size < 2 ^ 64

pub record ObjectFits (o : ObjectValue) : Type 0 where
  pub osabi : o.osabi < 2 ^ 8
  pub abi : o.abi < 2 ^ 8
  pub machine : o.machine < 2 ^ 16
  pub flags : o.flags < 2 ^ 32
  pub sections : AllByRecursion SectionFits o.sections
  pub symbols : AllByRecursion SymbolFits o.symbols

-- The relocations that a table of a file lists, as an object has them. (gABI chapter 4, Relocation.)

-- the position of the symbol of this index in the symbol table, whose entry 0 is none
abbrev pub symbol_reference : ℕ → Option ℕ
symbol_reference k = if k == 0 then None else Some (k - 1)

-- how many relocations a table has, with addends or without
abbrev pub table_count : Bool → List ℕ → ℕ
table_count rela bytes = length bytes / relocation_size rela

-- relocation j of a table; without addends each has the addend 0
unfoldable pub table_relocation : Bool → Order → List ℕ → ℕ → Relocation
table_relocation true order bytes j =
    let e = rela_at order bytes (RELA_SIZE * j) in
    record { offset = e.r_offset; symbol = symbol_reference (e.r_info / 2 ^ 32); kind = e.r_info % 2 ^ 32; addend = e.r_addend }
table_relocation false order bytes j =
    let e = rel_at order bytes (REL_SIZE * j) in
    record { offset = e.r_offset; symbol = symbol_reference (e.r_info / 2 ^ 32); kind = e.r_info % 2 ^ 32; addend = pos 0 }

-- all relocations of a table
unfoldable pub table_relocations : Bool → Order → List ℕ → List Relocation
table_relocations rela order bytes = map (table_relocation rela order bytes) (range_with_len 0 (table_count rela bytes))

abbrev pub listed_in : RelocationTable → List Relocation
listed_in t = table_relocations t.rela t.order t.bytes.now

-- the relocations, however they are kept
abbrev pub kept_relocations : Listed → List Relocation
kept_relocations (InList list) = list.items
kept_relocations (Table table) = listed_in table

-- these are the bytes of a table of these relocations, and of nothing else
pub record IsRelocationTable (rela : Bool) (order : Order) (bytes : List ℕ) (relocations : List Relocation) : Type 0 where
  pub are_bytes : IsBytes bytes
  pub relocations_are : relocations ≡ table_relocations rela order bytes
  pub whole : length bytes ≡ relocation_size rela * length relocations
