-- An image: a file as a value, and the byte list that represents it. (gABI chapter 4, ELF Header, Sections; chapter 5, Program Header.) A
-- sound image is defined by facts about the value alone (`IsSoundImage`). One theorem connects it with bytes, so the proof of an edit
-- proves no rule again. `Stands` asks that each record lies within the bytes. Otherwise a list that is too short would represent a value of
-- zeros.
use Rattle.std.specs.Prelude.{◌≡◌, ◌<◌, ◌≤◌, ℕ, suc, ◌+◌, ◌*◌, ◌==◌, if◌then◌else◌, List, [], ◌∷◌, length, map, get_or, take, drop, Option}
use Rattle.std.specs.Prelude.{None, Some, ◌≢◌, replicate, set, slice_get}
use Rattle.std.specs.List.{AllByRecursion, flat_map, range_with_len}
pub use Rattle.elf_image_rules.specs.Tables.{no_program_header, no_section_header, program_header_of, section_header_of}
use Rattle.elf_extent.specs.Account.{Accounts, IsGap}
use Rattle.elf_extent.specs.declared.extent.Extent.{Extent}
use Rattle.elf_extent.specs.declared.extent.Piece.{Piece}
use Rattle.elf_field.specs.Abi.{EHDR_SIZE, PHDR_SIZE, SHDR_SIZE, SHT_NOBITS, SHT_NULL}
use Rattle.elf_field.specs.Bytes.{IsBytes}
use Rattle.elf_field.specs.Headers.{IsEhdr, ehdr_bytes, IsShdr, shdr_bytes, IsPhdr, phdr_bytes}
use Rattle.elf_field.specs.declared.ehdr.Ehdr.{Ehdr}
use Rattle.elf_field.specs.declared.phdr.Phdr.{Phdr}
use Rattle.elf_field.specs.declared.shdr.Shdr.{Shdr}
use Rattle.elf_image_outline.specs.declared.outline.Owner.TheVariants.{Header, ProgramTable, SectionTable, Content, Gap}
use Rattle.elf_image_outline.specs.declared.outline.Owner.{Owner}
use Rattle.elf_image_outline.specs.declared.outline.Part.{Part}
use Rattle.elf_image_outline.specs.declared.outline.ReplaceFault.TheVariants.{NoSection, WrongLength, NameTable}
use Rattle.elf_image_outline.specs.declared.outline.ReplaceFault.{ReplaceFault}
use Rattle.elf_image_rules.specs.Rows.{Ruled, FirstIn}
use Rattle.elf_image_rules.specs.Rules.{image_rules, rules_in}
use Rattle.elf_image_rules.specs.Tables.{bytes_in, content_extent, header, name_table, order_of, phdr_offset, program_header_count}
use Rattle.elf_image_rules.specs.Tables.{section_header_count, sections, segments, shdr_offset}

-- a part of the file, and its own bytes where it is a gap (none where it has an owner)
pub record PlacedPart : Type 0 where
  pub part : Part
  pub gap : List ℕ

-- an image value: the length, the records, the content of each section, and the parts with their gaps
pub record ImageValue : Type 0 where
  pub len : ℕ
  pub header : Ehdr
  pub sections : List Shdr
  pub segments : List Phdr
  pub contents : List (List ℕ)
  pub parts : List PlacedPart

-- ---- what the value says by itself

-- the extents of the header, the section table, the program table, and from index 3 on of each section's content
abbrev pub value_extents : Ehdr → List Shdr → List Phdr → List Extent
value_extents h ss gs =
    record { start = 0; len = EHDR_SIZE } ∷
    record { start = h.e_shoff; len = SHDR_SIZE * length ss } ∷
    record { start = h.e_phoff; len = PHDR_SIZE * length gs } ∷
    map content_extent ss

-- the content of the section name string table; none without one
abbrev pub value_names : Ehdr → List Shdr → List (List ℕ) → List ℕ
value_names h ss cs =
    let k = name_table h (section_header_of ss 0) in
    if k == 0 then [] else get_or cs k []

-- the rules of the image, of what the value says
abbrev pub value_rules : ImageValue → List {1} (Ruled ℕ)
value_rules v =
    image_rules v.len v.header (section_header_of v.sections) (program_header_of v.segments) (value_names v.header v.sections v.contents)

-- an owner as an index in the list of extents
abbrev pub owner_index : Owner → Option ℕ
owner_index Header = Some 0
owner_index SectionTable = Some 1
owner_index ProgramTable = Some 2
owner_index (Content i) = Some (suc (suc (suc i)))
owner_index Gap = None

-- the piece of a part
abbrev pub part_piece : Part → Piece
part_piece p = record { owner = owner_index p.owner; start = p.start; len = p.len }

abbrev pub piece_of : PlacedPart → Piece
piece_of p = part_piece p.part

-- ---- the byte list

-- what only a gap has: x for a gap and d for any other
abbrev pub if_gap : {X : Type 0} → Owner → X → X → X
if_gap Gap x d = x
if_gap Header x d = d
if_gap SectionTable x d = d
if_gap ProgramTable x d = d
if_gap (Content i) x d = d

-- the bytes of a gap in a byte list
abbrev pub gap_in : List ℕ → Part → List ℕ
gap_in b p = if_gap p.owner (take p.len (drop p.start b)) []

-- the records are those that the byte list b has at their offsets
pub record AreRecordsIn (b : List ℕ) (h : Ehdr) (ss : List Shdr) (gs : List Phdr) : Type 0 where
  pub header : h ≡ header b
  pub section_headers : ss ≡ map (sections b h) (range_with_len 0 (section_header_count h (sections b h 0)))
  pub program_headers : gs ≡ map (segments b h) (range_with_len 0 (program_header_count h (sections b h 0)))

-- the header, each section header and each program header lie within the byte list
pub record AreWithinBytes (b : List ℕ) (h : Ehdr) (ss : List Shdr) (gs : List Phdr) : Type 0 where
  pub header : EHDR_SIZE ≤ length b
  pub section_headers : (i : ℕ) → i < length ss → shdr_offset h i + SHDR_SIZE ≤ length b
  pub program_headers : (j : ℕ) → j < length gs → phdr_offset h j + PHDR_SIZE ≤ length b

-- the value is represented by the byte list b
pub record Stands (v : ImageValue) (b : List ℕ) : Type 0 where
  pub bytes : IsBytes b
  pub len : v.len ≡ length b
  pub records : AreRecordsIn b v.header v.sections v.segments
  pub within : AreWithinBytes b v.header v.sections v.segments
  -- each content is the bytes at its offset
  pub contents : v.contents ≡ map (λ s. bytes_in b (content_extent s)) v.sections
  -- the parts are the extents, and the longest runs of offsets that lie in none
  pub accounts : Accounts (value_extents v.header v.sections v.segments) v.len 0 (map piece_of v.parts)
  -- each gap has its bytes
  pub gaps : AllByRecursion (λ p. p.gap ≡ gap_in b p.part) v.parts

-- the value is represented by b, and b breaks no rule
pub record IsImage (v : ImageValue) (b : List ℕ) : Type 0 where
  pub stands : Stands v b
  pub clean : FirstIn (rules_in b) None

-- what is said of an image's bytes: of the one list that represents it
pub record OfItsBytes (v : ImageValue) (Says : List ℕ → Type 0) : Type 0 where
  pub bytes : List ℕ
  pub image : IsImage v bytes
  pub only : (b : List ℕ) → Stands v b → b ≡ bytes
  pub says : Says bytes

-- ---- an image value by itself, with no byte list in it

-- how many bytes of its own a part has: a gap all of them, any other none
abbrev pub gap_len : Part → ℕ
gap_len p = if_gap p.owner p.len 0

pub record IsSoundImage (v : ImageValue) : Type 0 where
  pub header : IsEhdr v.header
  pub section_headers : AllByRecursion IsShdr v.sections
  pub program_headers : AllByRecursion IsPhdr v.segments
  pub section_count : length v.sections ≡ section_header_count v.header (section_header_of v.sections 0)
  pub segment_count : length v.segments ≡ program_header_count v.header (section_header_of v.sections 0)
  pub lengths : map length v.contents ≡ map (λ s. (content_extent s).len) v.sections
  pub bytes : AllByRecursion IsBytes v.contents
  pub accounts : Accounts (value_extents v.header v.sections v.segments) v.len 0 (map piece_of v.parts)
  pub gaps : AllByRecursion (λ p. IsBytes p.gap × (length p.gap ≡ gap_len p.part)) v.parts
  pub clean : FirstIn (value_rules v) None

-- ---- the one byte list

-- the bytes of an owner's part
abbrev pub owned_bytes : ImageValue → List ℕ → Owner → List ℕ
owned_bytes v gap Header = ehdr_bytes (order_of v.header.e_ident) v.header
owned_bytes v gap SectionTable = flat_map (shdr_bytes (order_of v.header.e_ident)) v.sections
owned_bytes v gap ProgramTable = flat_map (phdr_bytes (order_of v.header.e_ident)) v.segments
owned_bytes v gap (Content i) = get_or v.contents i []
owned_bytes v gap Gap = gap

abbrev pub part_bytes : ImageValue → PlacedPart → List ℕ
part_bytes v p = owned_bytes v p.gap p.part.owner

-- the parts' bytes, one part after the other
unfoldable pub joined : ImageValue → List ℕ
joined v = flat_map (part_bytes v) v.parts

-- The edits of an image: each changes just its own field, content or gaps.
-- (gABI chapter 4, ELF Header: e_entry; Sections: sh_flags, contents, and the space that no section covers.)

-- with another e_entry
abbrev pub with_entry : ImageValue → ℕ → ImageValue
with_entry v entry = let h = v.header in record v { header = record h { e_entry = entry } }

-- section headers with other sh_flags in number i
abbrev pub flagged : List Shdr → ℕ → ℕ → List Shdr
flagged ss i flags = let s = section_header_of ss i in set ss i (record s { sh_flags = flags })

abbrev pub with_flags : ImageValue → ℕ → ℕ → ImageValue
with_flags v i flags = record v { sections = flagged v.sections i flags }

-- with another content of section i
abbrev pub with_content : ImageValue → ℕ → List ℕ → ImageValue
with_content v i content = record v { contents = set v.contents i content }

-- with zeros in every gap
abbrev pub zeroed : PlacedPart → PlacedPart
zeroed p = record p { gap = replicate (gap_len p.part) 0 }

abbrev pub with_zero_gaps : ImageValue → ImageValue
with_zero_gaps v = record v { parts = map zeroed v.parts }

-- i is the index of a section: section header 0 is of none
abbrev pub IsSectionIndex : ImageValue → ℕ → Type 0
IsSectionIndex v i = (0 < i) × (i < length v.sections)

-- section i has bytes of its own in the file, be they none: it is neither NULL nor NOBITS
abbrev pub HasContent : ImageValue → ℕ → Type 0
HasContent v i =
    IsSectionIndex v i × ((section_header_of v.sections i).sh_type ≢ SHT_NULL) × ((section_header_of v.sections i).sh_type ≢ SHT_NOBITS)

abbrev pub IsNameTable : ImageValue → ℕ → Type 0
IsNameTable v i = i ≡ name_table v.header (section_header_of v.sections 0)

-- the content of section i can be replaced by bytes of its length, unless the sections' names are in it
pub record IsReplaceable (v : ImageValue) (i : ℕ) (content : List ℕ) : Type 0 where
  pub section : HasContent v i
  pub size : length content ≡ (section_header_of v.sections i).sh_size
  pub no_names : ¬ IsNameTable v i

-- when each refusal comes
abbrev pub IsReplaceFault : ImageValue → ℕ → List ℕ → ReplaceFault → Type 0
IsReplaceFault v i content NoSection = ¬ HasContent v i
IsReplaceFault v i content WrongLength = HasContent v i × (length content ≢ (section_header_of v.sections i).sh_size)
IsReplaceFault v i content NameTable =
    HasContent v i × (length content ≡ (section_header_of v.sections i).sh_size) × IsNameTable v i

-- What the parts of an image are: each byte lies in just one of them.

-- part k is p and holds the offset x, and no other part does
pub record IsOnlyPartAt (ps : List Part) (x k : ℕ) (p : Part) : Type 0 where
  pub here : slice_get ps k ≡ Some p
  pub from : p.start ≤ x
  pub below : x < p.start + p.len
  pub only : (j : ℕ) (q : Part) → slice_get ps j ≡ Some q →
      q.start ≤ x → x < q.start + q.len → j ≡ k

-- where an owner's part starts, and how long it is; a gap holds no byte of an owner, and is as long as it can be
abbrev pub IsExtentOf : ImageValue → Owner → ℕ → ℕ → Type 0
IsExtentOf v Header start len = (start ≡ 0) × (len ≡ EHDR_SIZE)
IsExtentOf v SectionTable start len = (start ≡ v.header.e_shoff) × (len ≡ SHDR_SIZE * length v.sections)
IsExtentOf v ProgramTable start len = (start ≡ v.header.e_phoff) × (len ≡ PHDR_SIZE * length v.segments)
IsExtentOf v (Content i) start len =
    (i < length v.sections) × (start ≡ (section_header_of v.sections i).sh_offset) ×
    (len ≡ (content_extent (section_header_of v.sections i)).len)
IsExtentOf v Gap start len = IsGap (value_extents v.header v.sections v.segments) v.len start len

pub record AreParts (v : ImageValue) (ps : List Part) : Type 0 where
  -- each offset below the length lies in one part, and in no other
  pub each_offset : (x : ℕ) → x < v.len → (k : ℕ) × (p : Part) × IsOnlyPartAt ps x k p
  pub owners : (k : ℕ) (p : Part) → slice_get ps k ≡ Some p → IsExtentOf v p.owner p.start p.len
  pub nonempty : (k : ℕ) (p : Part) → slice_get ps k ≡ Some p → 0 < p.len
  pub ascending : (j k : ℕ) (p q : Part) → j < k → slice_get ps j ≡ Some p → slice_get ps k ≡ Some q →
      p.start + p.len ≤ q.start
  pub within : (k : ℕ) (p : Part) → slice_get ps k ≡ Some p → p.start + p.len ≤ v.len
