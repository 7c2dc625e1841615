-- An object with its string tables and its canonical layout.
use Rattle.std.specs.Prelude.{◌≡◌, ℕ, List, ◌<◌, ◌≤◌, ◌+◌, ◌^◌, All, codes, get_or, length, ◌-◌, take, Option, Result, Ok, Err, MatchResult}
use Rattle.std.specs.Prelude.{◌++◌, replicate, slice_index}
use Rattle.std.specs.Io.KnownBytes.{Appends}
use Rattle.std.specs.List.{flat_map}
use denote.Struct.Props.{props}
use Rattle.elf_field.specs.Headers.{shdr_bytes}
use Rattle.elf_image_rules.specs.Rules.{MAX_LEN}
use Rattle.elf_image_stream.specs.Output.{Writes}
use Rattle.elf_image_stream.specs.declared.fault.WriteFault.{WriteFault}
use Rattle.elf_image_type.specs.WrittenFile.{all_headers}
use Rattle.elf_object_strings.specs.StringTable.{name_offset}
use Rattle.elf_object_type.specs.Object.{ObjectValue, BodyValue, bits, no_bits, relocs, group, SectionValue, section_at, info_position}
use Rattle.elf_object_type.specs.ObjectRules.{IsObject, IsWrongBitsType}
use Rattle.elf_object_layout.specs.Laid.{section_names, symbol_names, IsLayoutOf, LayoutValue, PlainSection, body_bytes, index_of}
use Rattle.elf_object_layout.specs.Laid.{index_table_section, own_section, plain_sections, strings, symbol_table_section, Laid}
use Rattle.elf_object_layout.specs.Laid.{section_headers, IsLayoutFault, name_table_at}
use Rattle.elf_object_layout.specs.StringTables.{AreNameTables}
use Rattle.elf_object_layout.specs.declared.name_tables.NameTables.{NameTables}
use Rattle.elf_object_writer.specs.declared.object_writing.ObjectWriteFault.TheVariants.{TooLong, OutOfMemory, Io}
use Rattle.elf_object_writer.specs.declared.object_writing.ObjectWriteFault.{ObjectWriteFault}
use Rattle.elf_object_writer.specs.declared.placed_object.PlacedSection.TheVariants.{Own, SymbolTable, IndexTable, Strings, Names}
use Rattle.elf_object_writer.specs.declared.placed_object.PlacedSection.{PlacedSection}
use Rattle.elf_object_layout.specs.declared.layout.LayoutFault.TheVariants as layout

-- an object and its layout
pub record PlacedValue : Type 0 where
  pub object : ObjectValue
  pub layout : LayoutValue

-- the layout is the object's
pub record IsPlacedObject (p : PlacedValue) : Type 0 where
  pub rules : IsObject p.object
  pub layout : IsLayoutOf p.object p.layout

pub record IsPlacedWith (t : NameTables) (p : PlacedValue) : Type 0 where
  pub placed : IsPlacedObject p
  pub tables : AreNameTables p.object t

-- ---- the sections of the layout, each by what it is

abbrev pub plain_section : ObjectValue → PlacedSection → PlainSection
plain_section o (Own position) = own_section o (section_at o position)
plain_section o SymbolTable = symbol_table_section o
plain_section o IndexTable = index_table_section o
plain_section o Strings = strings (codes ".strtab") (symbol_names o)
plain_section o Names = strings (codes ".shstrtab") (section_names o)

-- one of the object's own is there
abbrev pub IsThere : ObjectValue → PlacedSection → Type 0
IsThere o (Own position) = position < length o.sections
IsThere o SymbolTable = Unit {0}
IsThere o IndexTable = Unit {0}
IsThere o Strings = Unit {0}
IsThere o Names = Unit {0}

-- the section at a position in the order of the layout
pub record IsSectionAt (o : ObjectValue) (position : ℕ) (section : PlacedSection) : Type 0 where
  pub there : IsThere o section
  pub is : plain_section o section ≡ get_or (plain_sections o) position (plain_section o section)

-- ---- the numbers of a section fit the fields that hold them

-- the indexes in a body
abbrev pub HasShortIndexes : BodyValue → Type 0
HasShortIndexes (bits type content) = Unit {0}
HasShortIndexes (no_bits size) = Unit {0}
HasShortIndexes (relocs rela target entries) = (target + 1 < 2 ^ 32) × All (λ entry. index_of entry.symbol < 2 ^ 32) entries
HasShortIndexes (group comdat signature members) = (signature + 1 < 2 ^ 32) × All (λ member. member + 1 < 2 ^ 32) members

pub record HasShortNumbers (o : ObjectValue) (s : SectionValue) : Type 0 where
  pub right : ¬ IsWrongBitsType s.body
  pub link : index_of s.link < 2 ^ 32
  pub info : index_of (info_position s.info) < 2 ^ 32
  pub indexes : HasShortIndexes s.body
  pub short : length (body_bytes o.order s.body) ≤ MAX_LEN

-- That a section is there has no content beside that it holds: a type can have it as an invariant.

pub is_there_prop : (o : ObjectValue) (section : PlacedSection) → IsProp (IsThere o section)
is_there_prop o (Own position) = hlevel props
is_there_prop o SymbolTable = hlevel props
is_there_prop o IndexTable = hlevel props
is_there_prop o Strings = hlevel props
is_there_prop o Names = hlevel props

-- What writing an object does to what a writer holds.

-- the bytes of the canonical layout go out, or exactly the first of them and then the writer fails
abbrev pub WritesLayout : ObjectValue → Option (List ℕ) → Option (List ℕ) → Result Unit WriteFault → Type 0
WritesLayout o before after result = (b : List ℕ) × Laid o b × (length b ≤ MAX_LEN) × Writes before after b result

-- each fault with when it comes, and what it leaves; out of memory says nothing else
abbrev pub IsLayoutWriteFault : ObjectValue → Option (List ℕ) → Option (List ℕ) → ObjectWriteFault → Type 0
IsLayoutWriteFault o before after TooLong = (after ≡ before) × IsLayoutFault o layout.TooLong
IsLayoutWriteFault o before after OutOfMemory = after ≡ before
IsLayoutWriteFault o before after (Io written) = WritesLayout o before after (Err (record { written = written }))

abbrev pub IsLayoutWritten : {T : Type 0} → ObjectValue → Option (List ℕ) → Option (List ℕ) → Result T ObjectWriteFault → Type 0
IsLayoutWritten o before after result = MatchResult result (λ _. WritesLayout o before after (Ok tt)) (IsLayoutWriteFault o before after)

-- ---- part by part

-- bytes are written after so many others: all of them, and the result is where they end, or a fault that counts all that are written
abbrev pub WritesAfter : ℕ → Option (List ℕ) → Option (List ℕ) → List ℕ → Result ℕ WriteFault → Type 0
WritesAfter out before after bytes result = MatchResult result
    (λ end. (end ≡ out + length bytes) × Appends before after bytes)
    (λ fault. (out ≤ fault.written) × (fault.written < out + length bytes) × Appends before after (take (fault.written - out) bytes))

-- the zeros that the content at a position of the layout needs after so many bytes, and then the content
abbrev pub next_bytes : PlacedValue → ℕ → ℕ → PlainSection → List ℕ
next_bytes p position out d =
    replicate (slice_index p.layout.places position - out) 0 ++ (get_or (plain_sections p.object) position d).content

-- the bytes of the section header table
unfoldable pub header_table : ObjectValue → List ℕ → List ℕ
header_table o places =
    flat_map (shdr_bytes o.order)
    (all_headers (section_headers (name_offset (section_names o)) (plain_sections o) places) (name_table_at o))
