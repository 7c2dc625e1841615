-- The file that represents an object, and what writing it does to what a writer holds. (gABI chapter 4.)
use Rattle.std.specs.Prelude.{◌≤◌, ℕ, ◌+◌, List, [], ◌∷◌, length, map, slice_index, ◌≡◌, ◌↔◌, None, Option, Result, Ok, Err, MatchResult}
use Rattle.std.specs.Prelude.{codes}
use Rattle.elf_extent.specs.Place.{Least}
use Rattle.elf_field.specs.Abi.{EHDR_SIZE}
use Rattle.elf_field.specs.declared.number.Order.TheVariants.{Little, Big}
use Rattle.elf_image_outline.specs.Image.{ImageValue, IsImage, Stands}
use Rattle.elf_image_rules.specs.Rows.{FirstIn}
use Rattle.elf_image_rules.specs.Rules.{MAX_LEN, IsFault}
use Rattle.elf_image_stream.specs.Output.{Writes}
use Rattle.elf_image_stream.specs.declared.fault.WriteFault.{WriteFault}
use Rattle.elf_image_type.specs.WrittenFile.{all_headers}
use Rattle.elf_object_reader.specs.Denotes.{Denotes}
use Rattle.elf_object_reader.specs.FileRules.{file_rules}
use Rattle.elf_object_strings.specs.StringTable.{name_offset}
use Rattle.elf_object_type.specs.Object.{ObjectValue, ObjectFits, bits}
use Rattle.elf_object_type.specs.ObjectRules.{IsObject}
use Rattle.elf_object_type.specs.declared.parts.Info.TheVariants.{Number}
use Rattle.elf_object_layout.specs.Laid.{Laid, file_header, layout_bytes, layout_parts, section_headers, name_table_at, plain_sections}
use Rattle.elf_object_layout.specs.Laid.{section_names, IsLayoutFault}
use Rattle.elf_object_layout.specs.StringTables.{HasSharedNames}
use Rattle.elf_object_writer.specs.declared.object_writing.ObjectWriteFault.TheVariants.{TooLong, OutOfMemory, Io}
use Rattle.elf_object_writer.specs.declared.object_writing.ObjectWriteFault.{ObjectWriteFault}
use Rattle.elf_table_symbols.specs.Sections.{Sections, sections_of}
use Rattle.elf_object_layout.specs.declared.layout.LayoutFault.TheVariants as layout

-- An object as a file: its canonical layout's header, section headers and contents. (gABI chapter 4, ELF Header, Sections.)

-- the sections of the file in which the object's parts are at these places
unfoldable pub written_sections : ObjectValue → List ℕ → Sections
written_sections o places =
    let sections = plain_sections o in
    let headers = section_headers (name_offset (section_names o)) sections places in
    record {
      header = file_header o (length sections + 1) (slice_index places (length sections));
      headers = all_headers headers (name_table_at o);
      contents = [] ∷ map (λ s. s.content) sections;
    }

-- an object of the code, and the bytes that it is written as: its canonical layout, which is not too long for a file
pub record IsWrittenAs (o : ObjectValue) (b : List ℕ) : Type 0 where
  pub object : IsObject o
  pub widths : ObjectFits o
  pub laid : Laid o b
  pub short : length b ≤ MAX_LEN

-- the same by the places of its parts
pub record IsWrittenAt (o : ObjectValue) (places : List ℕ) : Type 0 where
  pub object : IsObject o
  pub widths : ObjectFits o
  pub least : Least (layout_parts (plain_sections o)) EHDR_SIZE places
  pub short : length (layout_bytes o places) ≤ MAX_LEN

-- b is the file of an object: its canonical layout, no longer than the longest file. It breaks no rule of images, and what it represents
-- breaks no rule of files read as objects and denotes this object and no other; and the file of any object is b exactly where the two
-- objects are equal
pub record IsWrittenFile (o : ObjectValue) (b : List ℕ) : Type 0 where
  pub laid : Laid o b
  pub only : (c : List ℕ) → Laid o c → c ≡ b
  -- each name is at its lowest offset in the two string tables, and no table that holds these names is shorter
  pub names : HasSharedNames o
  pub short : length b ≤ MAX_LEN
  pub accepted : IsFault b None
  pub image : (v : ImageValue) × IsImage v b
  pub kept : (v : ImageValue) → Stands v b → FirstIn (file_rules (sections_of v)) None
  pub denotes : (v : ImageValue) → Stands v b → (p : ObjectValue) → Denotes (sections_of v) p ↔ (p ≡ o)
  pub one : (p : ObjectValue) (c : List ℕ) → IsObject p → ObjectFits p → Laid p c → (c ≡ b) ↔ (p ≡ o)

-- the bytes of the object's file go out, or exactly the first of them and then the writer fails
abbrev pub WritesFile : ObjectValue → Option (List ℕ) → Option (List ℕ) → Result Unit WriteFault → Type 0
WritesFile o before after result = (b : List ℕ) × IsWrittenFile o b × Writes before after b result

-- each fault with when it comes, and what it leaves; out of memory says nothing else
abbrev pub IsObjectWriteFault : ObjectValue → Option (List ℕ) → Option (List ℕ) → ObjectWriteFault → Type 0
IsObjectWriteFault o before after TooLong = (after ≡ before) × IsLayoutFault o layout.TooLong
IsObjectWriteFault o before after OutOfMemory = after ≡ before
IsObjectWriteFault o before after (Io written) = WritesFile o before after (Err (record { written = written }))

abbrev pub IsObjectWritten : {T : Type 0} → ObjectValue → Option (List ℕ) → Option (List ℕ) → Result T ObjectWriteFault → Type 0
IsObjectWritten o before after result = MatchResult result (λ _. WritesFile o before after (Ok tt)) (IsObjectWriteFault o before after)

-- Two objects and the bytes of their canonical layouts, byte by byte.

-- an object of machine 62 without sections and symbols, least significant byte first
abbrev pub empty_object : ObjectValue
empty_object = record { order = Little; osabi = 0; abi = 0; machine = 62; flags = 0; sections = []; symbols = [] }

abbrev pub empty_object_bytes : List ℕ
empty_object_bytes =
    127 ∷ 69 ∷ 76 ∷ 70 ∷ 2 ∷ 1 ∷ 1 ∷ 0 ∷ 0 ∷ 0 ∷ 0 ∷ 0 ∷ 0 ∷ 0 ∷ 0 ∷ 0 ∷ 1 ∷ 0 ∷ 62 ∷ 0 ∷ 1 ∷ 0 ∷ 0 ∷ 0 ∷ 0 ∷
    0 ∷ 0 ∷ 0 ∷ 0 ∷ 0 ∷ 0 ∷ 0 ∷ 0 ∷ 0 ∷ 0 ∷ 0 ∷ 0 ∷ 0 ∷ 0 ∷ 0 ∷ 120 ∷ 0 ∷ 0 ∷ 0 ∷ 0 ∷ 0 ∷ 0 ∷ 0 ∷ 0 ∷ 0 ∷ 0 ∷
    0 ∷ 64 ∷ 0 ∷ 0 ∷ 0 ∷ 0 ∷ 0 ∷ 64 ∷ 0 ∷ 4 ∷ 0 ∷ 3 ∷ 0 ∷ 0 ∷ 0 ∷ 0 ∷ 0 ∷ 0 ∷ 0 ∷ 0 ∷ 0 ∷ 0 ∷ 0 ∷ 0 ∷ 0 ∷ 0 ∷
    0 ∷ 0 ∷ 0 ∷ 0 ∷ 0 ∷ 0 ∷ 0 ∷ 0 ∷ 0 ∷ 0 ∷ 0 ∷ 0 ∷ 0 ∷ 46 ∷ 115 ∷ 121 ∷ 109 ∷ 116 ∷ 97 ∷ 98 ∷ 0 ∷ 46 ∷ 115 ∷
    116 ∷ 114 ∷ 116 ∷ 97 ∷ 98 ∷ 0 ∷ 46 ∷ 115 ∷ 104 ∷ 115 ∷ 116 ∷ 114 ∷ 116 ∷ 97 ∷ 98 ∷ 0 ∷ 0 ∷ 0 ∷ 0 ∷ 0 ∷ 0 ∷
    0 ∷ 0 ∷ 0 ∷ 0 ∷ 0 ∷ 0 ∷ 0 ∷ 0 ∷ 0 ∷ 0 ∷ 0 ∷ 0 ∷ 0 ∷ 0 ∷ 0 ∷ 0 ∷ 0 ∷ 0 ∷ 0 ∷ 0 ∷ 0 ∷ 0 ∷ 0 ∷ 0 ∷ 0 ∷ 0 ∷
    0 ∷ 0 ∷ 0 ∷ 0 ∷ 0 ∷ 0 ∷ 0 ∷ 0 ∷ 0 ∷ 0 ∷ 0 ∷ 0 ∷ 0 ∷ 0 ∷ 0 ∷ 0 ∷ 0 ∷ 0 ∷ 0 ∷ 0 ∷ 0 ∷ 0 ∷ 0 ∷ 0 ∷ 0 ∷ 0 ∷
    0 ∷ 0 ∷ 0 ∷ 0 ∷ 0 ∷ 0 ∷ 0 ∷ 0 ∷ 0 ∷ 0 ∷ 0 ∷ 1 ∷ 0 ∷ 0 ∷ 0 ∷ 2 ∷ 0 ∷ 0 ∷ 0 ∷ 0 ∷ 0 ∷ 0 ∷ 0 ∷ 0 ∷ 0 ∷ 0 ∷
    0 ∷ 0 ∷ 0 ∷ 0 ∷ 0 ∷ 0 ∷ 0 ∷ 0 ∷ 0 ∷ 64 ∷ 0 ∷ 0 ∷ 0 ∷ 0 ∷ 0 ∷ 0 ∷ 0 ∷ 24 ∷ 0 ∷ 0 ∷ 0 ∷ 0 ∷ 0 ∷ 0 ∷ 0 ∷ 2 ∷
    0 ∷ 0 ∷ 0 ∷ 1 ∷ 0 ∷ 0 ∷ 0 ∷ 8 ∷ 0 ∷ 0 ∷ 0 ∷ 0 ∷ 0 ∷ 0 ∷ 0 ∷ 24 ∷ 0 ∷ 0 ∷ 0 ∷ 0 ∷ 0 ∷ 0 ∷ 0 ∷ 9 ∷ 0 ∷ 0 ∷
    0 ∷ 3 ∷ 0 ∷ 0 ∷ 0 ∷ 0 ∷ 0 ∷ 0 ∷ 0 ∷ 0 ∷ 0 ∷ 0 ∷ 0 ∷ 0 ∷ 0 ∷ 0 ∷ 0 ∷ 0 ∷ 0 ∷ 0 ∷ 0 ∷ 88 ∷ 0 ∷ 0 ∷ 0 ∷ 0 ∷
    0 ∷ 0 ∷ 0 ∷ 1 ∷ 0 ∷ 0 ∷ 0 ∷ 0 ∷ 0 ∷ 0 ∷ 0 ∷ 0 ∷ 0 ∷ 0 ∷ 0 ∷ 0 ∷ 0 ∷ 0 ∷ 0 ∷ 1 ∷ 0 ∷ 0 ∷ 0 ∷ 0 ∷ 0 ∷ 0 ∷
    0 ∷ 0 ∷ 0 ∷ 0 ∷ 0 ∷ 0 ∷ 0 ∷ 0 ∷ 0 ∷ 17 ∷ 0 ∷ 0 ∷ 0 ∷ 3 ∷ 0 ∷ 0 ∷ 0 ∷ 0 ∷ 0 ∷ 0 ∷ 0 ∷ 0 ∷ 0 ∷ 0 ∷ 0 ∷ 0 ∷
    0 ∷ 0 ∷ 0 ∷ 0 ∷ 0 ∷ 0 ∷ 0 ∷ 89 ∷ 0 ∷ 0 ∷ 0 ∷ 0 ∷ 0 ∷ 0 ∷ 0 ∷ 27 ∷ 0 ∷ 0 ∷ 0 ∷ 0 ∷ 0 ∷ 0 ∷ 0 ∷ 0 ∷ 0 ∷ 0 ∷
    0 ∷ 0 ∷ 0 ∷ 0 ∷ 0 ∷ 1 ∷ 0 ∷ 0 ∷ 0 ∷ 0 ∷ 0 ∷ 0 ∷ 0 ∷ 0 ∷ 0 ∷ 0 ∷ 0 ∷ 0 ∷ 0 ∷ 0 ∷ 0 ∷ []

-- one with a section of one byte, most significant byte first
abbrev pub one_section : ObjectValue
one_section = record {
  order = Big;
  osabi = 0;
  abi = 0;
  machine = 62;
  flags = 0;
  sections = record
      { name = codes ".text"; flags = 6; addr = 0; align = 16; entsize = 0; link = None; info = Number 0; body = bits 1 (0xc3 ∷ []) } ∷ [];
  symbols = [];
}

abbrev pub one_section_bytes : List ℕ
one_section_bytes =
    127 ∷ 69 ∷ 76 ∷ 70 ∷ 2 ∷ 2 ∷ 1 ∷ 0 ∷ 0 ∷ 0 ∷ 0 ∷ 0 ∷ 0 ∷ 0 ∷ 0 ∷ 0 ∷ 0 ∷ 1 ∷ 0 ∷ 62 ∷ 0 ∷ 0 ∷ 0 ∷ 1 ∷ 0 ∷
    0 ∷ 0 ∷ 0 ∷ 0 ∷ 0 ∷ 0 ∷ 0 ∷ 0 ∷ 0 ∷ 0 ∷ 0 ∷ 0 ∷ 0 ∷ 0 ∷ 0 ∷ 0 ∷ 0 ∷ 0 ∷ 0 ∷ 0 ∷ 0 ∷ 0 ∷ 136 ∷ 0 ∷ 0 ∷ 0 ∷
    0 ∷ 0 ∷ 64 ∷ 0 ∷ 0 ∷ 0 ∷ 0 ∷ 0 ∷ 64 ∷ 0 ∷ 5 ∷ 0 ∷ 4 ∷ 195 ∷ 0 ∷ 0 ∷ 0 ∷ 0 ∷ 0 ∷ 0 ∷ 0 ∷ 0 ∷ 0 ∷ 0 ∷ 0 ∷
    0 ∷ 0 ∷ 0 ∷ 0 ∷ 0 ∷ 0 ∷ 0 ∷ 0 ∷ 0 ∷ 0 ∷ 0 ∷ 0 ∷ 0 ∷ 0 ∷ 0 ∷ 0 ∷ 0 ∷ 0 ∷ 0 ∷ 0 ∷ 0 ∷ 0 ∷ 46 ∷ 116 ∷ 101 ∷
    120 ∷ 116 ∷ 0 ∷ 46 ∷ 115 ∷ 121 ∷ 109 ∷ 116 ∷ 97 ∷ 98 ∷ 0 ∷ 46 ∷ 115 ∷ 116 ∷ 114 ∷ 116 ∷ 97 ∷ 98 ∷ 0 ∷ 46 ∷
    115 ∷ 104 ∷ 115 ∷ 116 ∷ 114 ∷ 116 ∷ 97 ∷ 98 ∷ 0 ∷ 0 ∷ 0 ∷ 0 ∷ 0 ∷ 0 ∷ 0 ∷ 0 ∷ 0 ∷ 0 ∷ 0 ∷ 0 ∷ 0 ∷ 0 ∷ 0 ∷
    0 ∷ 0 ∷ 0 ∷ 0 ∷ 0 ∷ 0 ∷ 0 ∷ 0 ∷ 0 ∷ 0 ∷ 0 ∷ 0 ∷ 0 ∷ 0 ∷ 0 ∷ 0 ∷ 0 ∷ 0 ∷ 0 ∷ 0 ∷ 0 ∷ 0 ∷ 0 ∷ 0 ∷ 0 ∷ 0 ∷
    0 ∷ 0 ∷ 0 ∷ 0 ∷ 0 ∷ 0 ∷ 0 ∷ 0 ∷ 0 ∷ 0 ∷ 0 ∷ 0 ∷ 0 ∷ 0 ∷ 0 ∷ 0 ∷ 0 ∷ 0 ∷ 0 ∷ 0 ∷ 0 ∷ 0 ∷ 0 ∷ 0 ∷ 0 ∷ 0 ∷
    0 ∷ 0 ∷ 0 ∷ 0 ∷ 0 ∷ 0 ∷ 0 ∷ 1 ∷ 0 ∷ 0 ∷ 0 ∷ 1 ∷ 0 ∷ 0 ∷ 0 ∷ 0 ∷ 0 ∷ 0 ∷ 0 ∷ 6 ∷ 0 ∷ 0 ∷ 0 ∷ 0 ∷ 0 ∷ 0 ∷
    0 ∷ 0 ∷ 0 ∷ 0 ∷ 0 ∷ 0 ∷ 0 ∷ 0 ∷ 0 ∷ 64 ∷ 0 ∷ 0 ∷ 0 ∷ 0 ∷ 0 ∷ 0 ∷ 0 ∷ 1 ∷ 0 ∷ 0 ∷ 0 ∷ 0 ∷ 0 ∷ 0 ∷ 0 ∷ 0 ∷
    0 ∷ 0 ∷ 0 ∷ 0 ∷ 0 ∷ 0 ∷ 0 ∷ 16 ∷ 0 ∷ 0 ∷ 0 ∷ 0 ∷ 0 ∷ 0 ∷ 0 ∷ 0 ∷ 0 ∷ 0 ∷ 0 ∷ 7 ∷ 0 ∷ 0 ∷ 0 ∷ 2 ∷ 0 ∷ 0 ∷
    0 ∷ 0 ∷ 0 ∷ 0 ∷ 0 ∷ 0 ∷ 0 ∷ 0 ∷ 0 ∷ 0 ∷ 0 ∷ 0 ∷ 0 ∷ 0 ∷ 0 ∷ 0 ∷ 0 ∷ 0 ∷ 0 ∷ 0 ∷ 0 ∷ 72 ∷ 0 ∷ 0 ∷ 0 ∷ 0 ∷
    0 ∷ 0 ∷ 0 ∷ 24 ∷ 0 ∷ 0 ∷ 0 ∷ 3 ∷ 0 ∷ 0 ∷ 0 ∷ 1 ∷ 0 ∷ 0 ∷ 0 ∷ 0 ∷ 0 ∷ 0 ∷ 0 ∷ 8 ∷ 0 ∷ 0 ∷ 0 ∷ 0 ∷ 0 ∷ 0 ∷
    0 ∷ 24 ∷ 0 ∷ 0 ∷ 0 ∷ 15 ∷ 0 ∷ 0 ∷ 0 ∷ 3 ∷ 0 ∷ 0 ∷ 0 ∷ 0 ∷ 0 ∷ 0 ∷ 0 ∷ 0 ∷ 0 ∷ 0 ∷ 0 ∷ 0 ∷ 0 ∷ 0 ∷ 0 ∷ 0 ∷
    0 ∷ 0 ∷ 0 ∷ 0 ∷ 0 ∷ 0 ∷ 0 ∷ 96 ∷ 0 ∷ 0 ∷ 0 ∷ 0 ∷ 0 ∷ 0 ∷ 0 ∷ 1 ∷ 0 ∷ 0 ∷ 0 ∷ 0 ∷ 0 ∷ 0 ∷ 0 ∷ 0 ∷ 0 ∷ 0 ∷
    0 ∷ 0 ∷ 0 ∷ 0 ∷ 0 ∷ 1 ∷ 0 ∷ 0 ∷ 0 ∷ 0 ∷ 0 ∷ 0 ∷ 0 ∷ 0 ∷ 0 ∷ 0 ∷ 0 ∷ 23 ∷ 0 ∷ 0 ∷ 0 ∷ 3 ∷ 0 ∷ 0 ∷ 0 ∷ 0 ∷
    0 ∷ 0 ∷ 0 ∷ 0 ∷ 0 ∷ 0 ∷ 0 ∷ 0 ∷ 0 ∷ 0 ∷ 0 ∷ 0 ∷ 0 ∷ 0 ∷ 0 ∷ 0 ∷ 0 ∷ 0 ∷ 0 ∷ 97 ∷ 0 ∷ 0 ∷ 0 ∷ 0 ∷ 0 ∷ 0 ∷
    0 ∷ 33 ∷ 0 ∷ 0 ∷ 0 ∷ 0 ∷ 0 ∷ 0 ∷ 0 ∷ 0 ∷ 0 ∷ 0 ∷ 0 ∷ 0 ∷ 0 ∷ 0 ∷ 0 ∷ 1 ∷ 0 ∷ 0 ∷ 0 ∷ 0 ∷ 0 ∷ 0 ∷ 0 ∷ 0 ∷ []
