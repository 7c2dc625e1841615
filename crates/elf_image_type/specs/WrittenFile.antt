-- A file as it is written: parts one after the other, each at its offset, and its identification. And a relocatable one: the header, the
-- content of each section in the order of the section headers, and the section header table, without segments.
-- (gABI chapter 4: ELF Header, ELF Identification, Sections with Special Section Indexes.)
use Rattle.std.specs.Prelude.{◌≡◌, ◌≢◌, ◌<◌, ℕ, ◌+◌, ◌-◌, List, [], ◌∷◌, ◌++◌, length, map, get_or, replicate, slice_get, slice_index, Some}
use Rattle.std.specs.Prelude.{◌≤◌, suc, ◌*◌, ◌%◌, nat_lt, if◌then◌else◌}
use Rattle.std.specs.List.{AllByRecursion, flat_map}
use Rattle.elf_extent.specs.Place.{Fits}
use Rattle.elf_field.specs.Abi.{EHDR_SIZE, EI_NIDENT, EI_PAD, ELFCLASS64, ELFDATA2LSB, ELFDATA2MSB, EV_CURRENT, MAGIC, SHDR_SIZE}
use Rattle.elf_field.specs.Abi.{SHN_LORESERVE, SHN_XINDEX}
use Rattle.elf_field.specs.Bytes.{IsBytes}
use Rattle.elf_field.specs.Headers.{IsEhdr, ehdr_bytes, IsShdr, shdr_bytes, IsPhdr, phdr_bytes}
use Rattle.elf_field.specs.declared.ehdr.Ehdr.{Ehdr}
use Rattle.elf_field.specs.declared.number.Order.TheVariants.{Little, Big}
use Rattle.elf_field.specs.declared.number.Order.{Order}
use Rattle.elf_field.specs.declared.phdr.Phdr.{Phdr}
use Rattle.elf_field.specs.declared.shdr.Shdr.{Shdr}
use Rattle.elf_image_outline.specs.Image.{ImageValue, value_names}
use Rattle.elf_image_outline.specs.declared.outline.Owner.TheVariants.{Header, ProgramTable, SectionTable, Content, Gap}
use Rattle.elf_image_outline.specs.declared.outline.Owner.{Owner}
use Rattle.elf_image_rules.specs.KeepsRules.{KeepsEachRecordRule, EachSectionHeader, IsAlignment, KeepsIdentRules, KeepsNameRules}
use Rattle.elf_image_rules.specs.Rules.{MAX_LEN}
use Rattle.elf_image_rules.specs.Tables.{content_extent, order_of, program_header_count, program_header_of, section_header_count}
use Rattle.elf_image_rules.specs.Tables.{section_header_of, no_section_header}

-- ---- the bytes: parts with zeros between them ("only the ELF header has a fixed position in the file")

-- parts at their offsets, from one on: zeros up to each
abbrev pub spread : ℕ → List ℕ → List (List ℕ) → List ℕ
spread from places [] = []
spread from [] (part ∷ parts) = []
spread from (place ∷ places) (part ∷ parts) =
    replicate (place - from) 0 ++ (part ++ spread (place + length part) places parts)

-- a part as (size, alignment), where it needs none
abbrev pub unaligned : List ℕ → ℕ × ℕ
unaligned part = (length part, 1)

-- a part that is written: its owner, and its bytes
pub record WrittenPart : Type 0 where
  pub owner : Owner
  pub bytes : List ℕ

-- the file that the parts make
unfoldable pub written : List ℕ → List WrittenPart → List ℕ
written places parts = spread 0 places (map (λ p. p.bytes) parts)

-- ---- what it holds

-- the records, and the content of each section
pub record FileContents : Type 0 where
  pub header : Ehdr
  pub sections : List Shdr
  pub segments : List Phdr
  pub contents : List (List ℕ)

-- where an owner's bytes begin
abbrev pub owner_start : FileContents → Owner → ℕ
owner_start f Header = 0
owner_start f SectionTable = f.header.e_shoff
owner_start f ProgramTable = f.header.e_phoff
owner_start f (Content i) = (section_header_of f.sections i).sh_offset
owner_start f Gap = 0

-- an owner's bytes: a gap owns none
abbrev pub owner_bytes : FileContents → Owner → List ℕ
owner_bytes f Header = ehdr_bytes (order_of f.header.e_ident) f.header
owner_bytes f SectionTable = flat_map (shdr_bytes (order_of f.header.e_ident)) f.sections
owner_bytes f ProgramTable = flat_map (phdr_bytes (order_of f.header.e_ident)) f.segments
owner_bytes f (Content i) = get_or f.contents i []
owner_bytes f Gap = []

-- part k is the owner's
abbrev pub IsPartOf : List WrittenPart → ℕ → Owner → Type 0
IsPartOf parts k o = (p : WrittenPart) × (slice_get parts k ≡ Some p) × (p.owner ≡ o)

-- the parts at these offsets are those of the file
pub record AreFileParts (f : FileContents) (places : List ℕ) (parts : List WrittenPart) : Type 0 where
  -- each is after the one before it
  pub order : Fits (map (λ p. unaligned p.bytes) parts) 0 places
  -- a part that has an owner is the owner's bytes, where they begin
  pub owned : (k : ℕ) (p : WrittenPart) → slice_get parts k ≡ Some p → p.owner ≢ Gap →
      (slice_index places k ≡ owner_start f p.owner) × (p.bytes ≡ owner_bytes f p.owner)
  -- each owner that has a byte has a part
  pub each_owner : (o : Owner) → 0 < length (owner_bytes f o) → (k : ℕ) × IsPartOf parts k o

-- the file keeps the rules: 1 to 32 by its records, and 33 since its parts are one after the other
pub record IsWritable (f : FileContents) (places : List ℕ) (parts : List WrittenPart) : Type 0 where
  pub header : IsEhdr f.header
  pub section_headers : AllByRecursion IsShdr f.sections
  pub program_headers : AllByRecursion IsPhdr f.segments
  pub bytes : AllByRecursion (λ p. IsBytes p.bytes) parts
  pub section_count : length f.sections ≡ section_header_count f.header (section_header_of f.sections 0)
  pub segment_count : length f.segments ≡ program_header_count f.header (section_header_of f.sections 0)
  pub lengths : map length f.contents ≡ map (λ s. (content_extent s).len) f.sections
  pub placed : AreFileParts f places parts
  pub kept : KeepsEachRecordRule (length (written places parts)) f.header (section_header_of f.sections) (program_header_of f.segments)
      (value_names f.header f.sections f.contents)

-- the image has these records and contents, and no others
pub record HasContents (v : ImageValue) (f : FileContents) : Type 0 where
  pub header : v.header ≡ f.header
  pub sections : v.sections ≡ f.sections
  pub segments : v.segments ≡ f.segments
  pub contents : v.contents ≡ f.contents

-- ---- its identification (gABI chapter 4, ELF Identification)

-- EI_DATA of an order
abbrev pub encoding : Order → ℕ
encoding Little = ELFDATA2LSB
encoding Big = ELFDATA2MSB

-- e_ident of a file in this order, with these bytes EI_OSABI and EI_ABIVERSION
abbrev pub identification : Order → ℕ → ℕ → List ℕ
identification order osabi abi = MAGIC ++ (ELFCLASS64 ∷ encoding order ∷ EV_CURRENT ∷ osabi ∷ abi ∷ replicate (EI_NIDENT - EI_PAD) 0)

-- ---- a relocatable file: counts and indexes that the header may not hold

-- e_shnum: 0 for a count that is a reserved index
abbrev pub short_count : ℕ → ℕ
short_count count = if nat_lt count SHN_LORESERVE then count else 0

-- e_shstrndx: SHN_XINDEX for a name table whose index is a reserved one
abbrev pub short_index : ℕ → ℕ
short_index index = if nat_lt index SHN_LORESERVE then index else SHN_XINDEX

-- what section header 0 holds of a number: only one that the header doesn't
abbrev pub long_number : ℕ → ℕ
long_number number = if nat_lt number SHN_LORESERVE then 0 else number

-- section header 0 of a file with so many section headers and this name table
abbrev pub first_header : ℕ → ℕ → Shdr
first_header count names = record no_section_header { sh_size = long_number count; sh_link = long_number names }

-- ---- the file, of a header, the section headers and contents from 1 on, and the name table's index

abbrev pub all_headers : List Shdr → ℕ → List Shdr
all_headers ss names = first_header (length ss + 1) names ∷ ss

abbrev pub relocatable_file : Ehdr → List Shdr → List (List ℕ) → ℕ → FileContents
relocatable_file h ss cs names = record {
  header = h;
  sections = all_headers ss names;
  segments = [];
  contents = [] ∷ cs;
}

-- the bytes of the section header table
abbrev pub section_table : Ehdr → List Shdr → ℕ → List ℕ
section_table h ss names = flat_map (shdr_bytes (order_of h.e_ident)) (all_headers ss names)

-- the contents, and after them the section header table
abbrev pub after_header : Ehdr → List Shdr → List (List ℕ) → ℕ → List (List ℕ)
after_header h ss cs names = cs ++ (section_table h ss names ∷ [])

-- where they begin
abbrev pub offsets : Ehdr → List Shdr → List ℕ
offsets h ss = map (λ s. s.sh_offset) ss ++ (h.e_shoff ∷ [])

-- the file's bytes
unfoldable pub relocatable_bytes : Ehdr → List Shdr → List (List ℕ) → ℕ → List ℕ
relocatable_bytes h ss cs names =
    spread 0 (0 ∷ offsets h ss) (ehdr_bytes (order_of h.e_ident) h ∷ after_header h ss cs names)

-- ---- its parts

-- contents by their owners, from an index on
abbrev pub content_parts : ℕ → List (List ℕ) → List WrittenPart
content_parts i [] = []
content_parts i (c ∷ cs) = record { owner = Content i; bytes = c } ∷ content_parts (suc i) cs

abbrev pub relocatable_parts : Ehdr → List Shdr → List (List ℕ) → ℕ → List WrittenPart
relocatable_parts h ss cs names =
    record { owner = Header; bytes = ehdr_bytes (order_of h.e_ident) h } ∷
    (content_parts 1 cs ++ (record { owner = SectionTable; bytes = section_table h ss names } ∷ []))

-- ---- what it has that keeps the rules

pub record IsRelocatableFile (h : Ehdr) (ss : List Shdr) (cs : List (List ℕ)) (names : ℕ) : Type 0 where
  pub header_fits : IsEhdr h
  pub headers_fit : AllByRecursion IsShdr ss
  pub bytes : AllByRecursion IsBytes cs
  -- the header's own facts, with no program table
  pub ident : KeepsIdentRules h.e_ident
  pub version : h.e_version ≡ EV_CURRENT
  pub header_size : h.e_ehsize ≡ EHDR_SIZE
  pub section_header_size : h.e_shentsize ≡ SHDR_SIZE
  pub section_count : h.e_shnum ≡ short_count (length ss + 1)
  pub name_table : h.e_shstrndx ≡ short_index names
  pub no_program_table : h.e_phoff ≡ 0
  pub no_segments : h.e_phnum ≡ 0
  -- each part begins after the one before it, and the last one ends in time
  pub lengths : map length cs ≡ map (λ s. (content_extent s).len) ss
  pub order : Fits (map unaligned (after_header h ss cs names)) EHDR_SIZE (offsets h ss)
  pub short : h.e_shoff + SHDR_SIZE * (length ss + 1) ≤ MAX_LEN
  -- alignments and names
  pub alignment : EachSectionHeader (length ss + 1) (section_header_of (all_headers ss names)) (λ entry. IsAlignment entry.sh_addralign)
  pub address : EachSectionHeader (length ss + 1) (section_header_of (all_headers ss names))
      (λ entry. 1 < entry.sh_addralign → entry.sh_addr % entry.sh_addralign ≡ 0)
  pub names_within : names < length ss + 1
  pub section_names : KeepsNameRules (length ss + 1) names (section_header_of (all_headers ss names)) (get_or ([] ∷ cs) names [])
