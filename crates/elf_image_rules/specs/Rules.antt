-- Rules 1 to 33, each as the row of offsets where it is broken, in the order in which they count. (gABI chapters 4 and 5.)
use Rattle.std.specs.Prelude.{◌≡◌, ◌≢◌, ℕ, ◌+◌, ◌^◌, ◌<◌, ◌≤◌, ◌⊎◌, List, [], ◌∷◌, length, slice_index, ◌-◌, ◌%◌, ◌*◌, Option, None, Some}
use Rattle.std.specs.Prelude.{map, slice_get, ◌++◌}
use Rattle.std.specs.Int.{IsPowerOfTwo}
use Rattle.std.specs.List.{range_with_len}
use Rattle.elf_extent.specs.Extent.{Doubly, HasAt}
use Rattle.elf_extent.specs.declared.extent.Extent.{Extent}
use Rattle.elf_field.specs.Abi.{EHDR_SIZE, EI_CLASS, EI_DATA, EI_VERSION, ELFCLASS64, ELFDATA2LSB, ELFDATA2MSB, EV_CURRENT, E_EHSIZE_AT}
use Rattle.elf_field.specs.Abi.{E_SHENTSIZE_AT, E_SHNUM_AT, E_SHOFF_AT, E_SHSTRNDX_AT, E_VERSION_AT, MAGIC, SHDR_SIZE, SHN_LORESERVE}
use Rattle.elf_field.specs.Abi.{SHN_XINDEX, SHT_NULL, SH_ADDRALIGN_AT, SH_ADDR_AT, SH_ENTSIZE_AT, SH_FLAGS_AT, SH_LINK_AT, SH_NAME_AT}
use Rattle.elf_field.specs.Abi.{SH_OFFSET_AT, SH_SIZE_AT, SH_TYPE_AT, E_PHENTSIZE_AT, E_PHNUM_AT, E_PHOFF_AT, PHDR_SIZE, PN_XNUM}
use Rattle.elf_field.specs.Abi.{SH_INFO_AT, SHT_NOBITS, PT_LOAD, PT_NULL, P_ALIGN_AT, P_FILESZ_AT, P_OFFSET_AT, P_VADDR_AT, SHT_STRTAB}
use Rattle.elf_field.specs.declared.ehdr.Ehdr.{Ehdr}
use Rattle.elf_field.specs.declared.phdr.Phdr.{Phdr}
use Rattle.elf_field.specs.declared.shdr.Shdr.{Shdr}
pub use Rattle.elf_image_rule_names.specs.Longest.{MAX_LEN}
use Rattle.elf_image_rules.specs.Rows.{Row, Ruled, rule, When, Either, AtEntry, FirstIn}
use Rattle.elf_image_rules.specs.Tables.{section_header_count, shdr_offset, program_header_count, phdr_offset, content_extent, counts_in}
use Rattle.elf_image_rules.specs.Tables.{header, sections, segments, names}
use Rattle.elf_image_rules.specs.declared.entry_rules.SectionRule.TheVariants.{ContentPastEnd, MisalignedSection, NamePastEnd}
use Rattle.elf_image_rules.specs.declared.entry_rules.SectionRule.TheVariants.{WrongSectionAlignment}
use Rattle.elf_image_rules.specs.declared.entry_rules.SectionRule.{SectionRule}
use Rattle.elf_image_rules.specs.declared.entry_rules.SegmentRule.TheVariants.{FileSizeAboveMemorySize, IncongruentSegment, SegmentPastEnd}
use Rattle.elf_image_rules.specs.declared.entry_rules.SegmentRule.TheVariants.{WrongSegmentAlignment}
use Rattle.elf_image_rules.specs.declared.entry_rules.SegmentRule.{SegmentRule}
use Rattle.elf_image_rules.specs.declared.name_rules.TableEnds.{TableEnds}
use Rattle.elf_image_rules.specs.declared.tables.Counts.{Counts}

-- Rules 1 to 12: the file's length and its header. (gABI chapter 4, ELF Header and ELF Identification.)
-- A header is tested as a value, h, of a file of len bytes.

-- rule 1: the file is longer than that
abbrev pub too_long : ℕ → Row ℕ
too_long len = When (MAX_LEN < len) MAX_LEN

-- rule 2: the file is shorter than a header
abbrev pub too_short : ℕ → Row ℕ
too_short len = When (len < EHDR_SIZE) len

-- rule 3: a byte of the magic number is wrong
abbrev pub wrong_magic : List ℕ → Row ℕ
wrong_magic ident = λ x. (x < length MAGIC) × (slice_index ident x ≢ slice_index MAGIC x)

-- rule 4: the class isn't 64-bit (ELFCLASS64)
abbrev pub wrong_class : List ℕ → Row ℕ
wrong_class ident = When (slice_index ident EI_CLASS ≢ ELFCLASS64) EI_CLASS

-- rule 5: the data encoding is neither ELFDATA2LSB nor ELFDATA2MSB
abbrev pub wrong_data : List ℕ → Row ℕ
wrong_data ident =
    When ((slice_index ident EI_DATA ≢ ELFDATA2LSB) × (slice_index ident EI_DATA ≢ ELFDATA2MSB)) EI_DATA

-- rule 6: the identification's version isn't the current one (EV_CURRENT)
abbrev pub wrong_ident_version : List ℕ → Row ℕ
wrong_ident_version ident = When (slice_index ident EI_VERSION ≢ EV_CURRENT) EI_VERSION

-- rule 7: the file's version isn't the current one
abbrev pub wrong_version : Ehdr → Row ℕ
wrong_version h = When (h.e_version ≢ EV_CURRENT) E_VERSION_AT

-- rule 8: the header's size isn't that of the class
abbrev pub wrong_header_size : Ehdr → Row ℕ
wrong_header_size h = When (h.e_ehsize ≢ EHDR_SIZE) E_EHSIZE_AT

-- rule 9: there is no section table, but a count of sections or the index of a name table
abbrev pub count_without_section_table : Ehdr → Row ℕ
count_without_section_table h = λ x. (h.e_shoff ≡ 0) ×
    (((h.e_shnum ≢ 0) × (x ≡ E_SHNUM_AT)) ⊎ ((h.e_shstrndx ≢ 0) × (x ≡ E_SHSTRNDX_AT)))

-- rule 10: the section table's entries don't have the size of a section header
abbrev pub wrong_section_header_size : Ehdr → Row ℕ
wrong_section_header_size h = When ((h.e_shoff ≢ 0) × (h.e_shentsize ≢ SHDR_SIZE)) E_SHENTSIZE_AT

-- rule 11: the count of section headers is a reserved index (SHN_LORESERVE and above)
abbrev pub reserved_section_count : Ehdr → Row ℕ
reserved_section_count h = When (SHN_LORESERVE ≤ h.e_shnum) E_SHNUM_AT

-- rule 12: there is a section table, and section header 0 passes the end of the file
abbrev pub first_section_header_past_end : ℕ → Ehdr → Row ℕ
first_section_header_past_end len h = When ((h.e_shoff ≢ 0) × (len < h.e_shoff + SHDR_SIZE)) E_SHOFF_AT

-- rules 1 and 2
unfoldable pub length_rules : ℕ → List {1} (Ruled ℕ)
length_rules len =
    rule 1 (too_long len) ∷
    rule 2 (too_short len) ∷ []

-- rules 3 to 6
unfoldable pub ident_rules : List ℕ → List {1} (Ruled ℕ)
ident_rules ident =
    rule 3 (wrong_magic ident) ∷
    rule 4 (wrong_class ident) ∷
    rule 5 (wrong_data ident) ∷
    rule 6 (wrong_ident_version ident) ∷ []

-- rules 7 to 12
unfoldable pub header_rules : ℕ → Ehdr → List {1} (Ruled ℕ)
header_rules len h =
    rule 7 (wrong_version h) ∷
    rule 8 (wrong_header_size h) ∷
    rule 9 (count_without_section_table h) ∷
    rule 10 (wrong_section_header_size h) ∷
    rule 11 (reserved_section_count h) ∷
    rule 12 (first_section_header_past_end len h) ∷ []

-- Rules 13 to 17: section header 0 and the counts of the section table. They are tested where there
-- is a section table. (gABI chapter 4, ELF Header and Sections: extended numbering.)

-- the row of a rule on one field of section header 0, at `field` in it
abbrev pub InFirst : Ehdr → Type 0 → ℕ → Row ℕ
InFirst h P field = When ((h.e_shoff ≢ 0) × P) (shdr_offset h 0 + field)

-- rule 13: a field of section header 0 that has no meaning there isn't 0
abbrev pub first_section_header_not_null : Ehdr → Shdr → Row ℕ
first_section_header_not_null h first = Either (
    InFirst h (first.sh_name ≢ 0) SH_NAME_AT ∷
    InFirst h (first.sh_type ≢ SHT_NULL) SH_TYPE_AT ∷
    InFirst h (first.sh_flags ≢ 0) SH_FLAGS_AT ∷
    InFirst h (first.sh_addr ≢ 0) SH_ADDR_AT ∷
    InFirst h (first.sh_offset ≢ 0) SH_OFFSET_AT ∷
    InFirst h (first.sh_addralign ≢ 0) SH_ADDRALIGN_AT ∷
    InFirst h (first.sh_entsize ≢ 0) SH_ENTSIZE_AT ∷ [])

-- rule 14: section header 0 has a count beside e_shnum, or a count that e_shnum could hold
abbrev pub HasWrongExtendedSectionCount : Ehdr → Shdr → Type 0
HasWrongExtendedSectionCount h first =
    ((h.e_shnum ≢ 0) × (first.sh_size ≢ 0)) ⊎ ((h.e_shnum ≡ 0) × (first.sh_size < SHN_LORESERVE))

abbrev pub wrong_extended_section_count : Ehdr → Shdr → Row ℕ
wrong_extended_section_count h first = InFirst h (HasWrongExtendedSectionCount h first) SH_SIZE_AT

-- rule 15: the section table passes the end of the file
abbrev pub section_table_past_end : ℕ → Ehdr → Shdr → Row ℕ
section_table_past_end len h first =
    When ((h.e_shoff ≢ 0) × (len < shdr_offset h (section_header_count h first))) E_SHOFF_AT

-- rule 16: the name table's index is reserved, or there is no such section of n; SHN_XINDEX is left
-- to rule 17
abbrev pub HasWrongNameTableIndex : Ehdr → ℕ → Type 0
HasWrongNameTableIndex h n =
    (h.e_shstrndx ≢ SHN_XINDEX) × ((SHN_LORESERVE ≤ h.e_shstrndx) ⊎ (n ≤ h.e_shstrndx))

abbrev pub wrong_name_table_index : Ehdr → Shdr → Row ℕ
wrong_name_table_index h first =
    When ((h.e_shoff ≢ 0) × HasWrongNameTableIndex h (section_header_count h first)) E_SHSTRNDX_AT

-- rule 17: section header 0 has a name table's index that e_shstrndx could hold, or that none of n
-- sections has, or one beside e_shstrndx
abbrev pub HasWrongExtendedNameTableIndex : Ehdr → Shdr → ℕ → Type 0
HasWrongExtendedNameTableIndex h first n =
    ((h.e_shstrndx ≡ SHN_XINDEX) × ((first.sh_link < SHN_LORESERVE) ⊎ (n ≤ first.sh_link))) ⊎
    ((h.e_shstrndx ≢ SHN_XINDEX) × (first.sh_link ≢ 0))

abbrev pub wrong_extended_name_table_index : Ehdr → Shdr → Row ℕ
wrong_extended_name_table_index h first =
    InFirst h (HasWrongExtendedNameTableIndex h first (section_header_count h first)) SH_LINK_AT

-- rules 13 to 17
unfoldable pub section_table_rules : ℕ → Ehdr → Shdr → List {1} (Ruled ℕ)
section_table_rules len h first =
    rule 13 (first_section_header_not_null h first) ∷
    rule 14 (wrong_extended_section_count h first) ∷
    rule 15 (section_table_past_end len h first) ∷
    rule 16 (wrong_name_table_index h first) ∷
    rule 17 (wrong_extended_name_table_index h first) ∷ []

-- Rules 18 to 21: the program table's offset and count. (gABI chapter 4, ELF Header; chapter 5,
-- Program Header.)

-- rule 18: a program table without a count, a count without a table, or a count that is in a section header 0 that isn't there
abbrev pub HasWrongSegmentCount : Ehdr → Type 0
HasWrongSegmentCount h =
    ((h.e_phoff ≡ 0) × (h.e_phnum ≢ 0)) ⊎ ((h.e_phoff ≢ 0) × (h.e_phnum ≡ 0)) ⊎
    ((h.e_phnum ≡ PN_XNUM) × (h.e_shoff ≡ 0))

abbrev pub wrong_segment_count : Ehdr → Row ℕ
wrong_segment_count h = When (HasWrongSegmentCount h) E_PHNUM_AT

-- rule 19: the program table's entries don't have the size of a program header
abbrev pub wrong_program_header_size : Ehdr → Row ℕ
wrong_program_header_size h = When ((h.e_phnum ≢ 0) × (h.e_phentsize ≢ PHDR_SIZE)) E_PHENTSIZE_AT

-- rule 20: section header 0 has a count of segments that e_phnum could hold, or one beside e_phnum
abbrev pub HasWrongExtendedSegmentCount : Ehdr → Shdr → Type 0
HasWrongExtendedSegmentCount h first =
    ((h.e_phnum ≡ PN_XNUM) × (first.sh_info < PN_XNUM)) ⊎ ((h.e_phnum ≢ PN_XNUM) × (first.sh_info ≢ 0))

abbrev pub wrong_extended_segment_count : Ehdr → Shdr → Row ℕ
wrong_extended_segment_count h first = InFirst h (HasWrongExtendedSegmentCount h first) SH_INFO_AT

-- rule 21: the program table passes the end of the file
abbrev pub program_table_past_end : ℕ → Ehdr → Shdr → Row ℕ
program_table_past_end len h first =
    let m = program_header_count h first in When ((0 < m) × (len < phdr_offset h m)) E_PHOFF_AT

-- rules 18 to 21
unfoldable pub program_table_rules : ℕ → Ehdr → Shdr → List {1} (Ruled ℕ)
program_table_rules len h first =
    rule 18 (wrong_segment_count h) ∷
    rule 19 (wrong_program_header_size h) ∷
    rule 20 (wrong_extended_segment_count h first) ∷
    rule 21 (program_table_past_end len h first) ∷ []

-- String tables: their length and ends, and what isn't 0 at one. (gABI chapter 4, String Table.)

-- the length and the ends of a string table
pub record AreEnds (ends : TableEnds) (table : List ℕ) : Type 0 where
  pub len : ends.len ≡ length table
  pub first : 0 < length table → slice_index table 0 ≡ ends.first
  pub last : 0 < length table → slice_index table (length table - 1) ≡ ends.last

-- the first or the last byte of a string table at `start` isn't 0
abbrev pub UnclosedAt : List ℕ → ℕ → Row ℕ
UnclosedAt table start =
    let last = length table - 1 in
    Either (
    When ((0 < length table) × (slice_index table 0 ≢ 0)) start ∷
    When ((0 < length table) × (slice_index table last ≢ 0)) (start + last) ∷ [])

-- Rules 22 to 24, and what breaks rule 32 on one section. Entry 0 and entries of type NULL are left out.
-- (gABI chapter 4, Sections: sh_addralign, sh_addr, sh_offset, sh_size, sh_name.)

-- the row of a rule on each of n sections but entry 0 and those of type NULL, at `field` in the header
abbrev pub SomeSectionHeader : Ehdr → ℕ → (ℕ → Shdr) → (Shdr → Type 0) → ℕ → Row ℕ
SomeSectionHeader h n s P field =
    AtEntry n (λ i. (1 ≤ i) × ((s i).sh_type ≢ SHT_NULL) × P (s i)) (λ i. shdr_offset h i + field)

-- an alignment is neither 0, for none, nor a power of two
abbrev pub IsWrongAlignment : ℕ → Type 0
IsWrongAlignment align = (align ≢ 0) × ¬ IsPowerOfTwo align

-- rule 22: a section's alignment is neither 0 nor a power of two
abbrev pub HasWrongSectionAlignment : Shdr → Type 0
HasWrongSectionAlignment entry = IsWrongAlignment entry.sh_addralign

abbrev pub wrong_section_alignment : Ehdr → ℕ → (ℕ → Shdr) → Row ℕ
wrong_section_alignment h n s = SomeSectionHeader h n s HasWrongSectionAlignment SH_ADDRALIGN_AT

-- rule 23: a section's address is no multiple of its alignment
abbrev pub IsMisalignedSection : Shdr → Type 0
IsMisalignedSection entry = (1 < entry.sh_addralign) × (entry.sh_addr % entry.sh_addralign ≢ 0)

abbrev pub misaligned_section : Ehdr → ℕ → (ℕ → Shdr) → Row ℕ
misaligned_section h n s = SomeSectionHeader h n s IsMisalignedSection SH_ADDR_AT

-- rule 24: a content passes the end of the file; NOBITS has none in it
abbrev pub IsContentPastEnd : ℕ → Shdr → Type 0
IsContentPastEnd len entry =
    (entry.sh_type ≢ SHT_NOBITS) × (0 < entry.sh_size) × (len < entry.sh_offset + entry.sh_size)

abbrev pub content_past_end : ℕ → Ehdr → ℕ → (ℕ → Shdr) → Row ℕ
content_past_end len h n s = SomeSectionHeader h n s (IsContentPastEnd len) SH_OFFSET_AT

-- rule 32: a section's name begins after a section name string table of this size; 0, for no name, needs no table
abbrev pub IsNamePastEnd : ℕ → Shdr → Type 0
IsNamePastEnd size entry = (entry.sh_name ≢ 0) × (size ≤ entry.sh_name)

-- what breaks each of these rules
abbrev pub BreaksSectionHeader : SectionRule → Shdr → Type 0
BreaksSectionHeader WrongSectionAlignment = HasWrongSectionAlignment
BreaksSectionHeader MisalignedSection = IsMisalignedSection
BreaksSectionHeader (ContentPastEnd len) = IsContentPastEnd len
BreaksSectionHeader (NamePastEnd size) = IsNamePastEnd size

-- the offset in the section header of the field at which each of them is broken
abbrev pub section_field : SectionRule → ℕ
section_field WrongSectionAlignment = SH_ADDRALIGN_AT
section_field MisalignedSection = SH_ADDR_AT
section_field (ContentPastEnd len) = SH_OFFSET_AT
section_field (NamePastEnd size) = SH_NAME_AT

-- rules 22 to 24
unfoldable pub section_header_rules : ℕ → Ehdr → ℕ → (ℕ → Shdr) → List {1} (Ruled ℕ)
section_header_rules len h n s =
    rule 22 (wrong_section_alignment h n s) ∷
    rule 23 (misaligned_section h n s) ∷
    rule 24 (content_past_end len h n s) ∷ []

-- Rules 25 to 29: the segments. (gABI chapter 5, Program Header: p_offset, p_filesz, p_memsz,
-- p_align; segment type LOAD and its order.)

-- the row of a rule on each of m segments, at `field` in the program header
abbrev pub SomeSegment : Ehdr → ℕ → (ℕ → Phdr) → (Phdr → Type 0) → ℕ → Row ℕ
SomeSegment h m g P field = AtEntry m (λ j. P (g j)) (λ j. phdr_offset h j + field)

-- a loadable segment (type LOAD)
abbrev pub IsLoad : Phdr → Type 0
IsLoad segment = segment.p_type ≡ PT_LOAD

-- rule 25: a segment's bytes pass the end of the file; one of type NULL has none
abbrev pub IsSegmentPastEnd : ℕ → Phdr → Type 0
IsSegmentPastEnd len segment =
    (segment.p_type ≢ PT_NULL) × (0 < segment.p_filesz) × (len < segment.p_offset + segment.p_filesz)

abbrev pub segment_past_end : ℕ → Ehdr → ℕ → (ℕ → Phdr) → Row ℕ
segment_past_end len h m g = SomeSegment h m g (IsSegmentPastEnd len) P_OFFSET_AT

-- rule 26: a loadable segment has more bytes in the file than in memory
abbrev pub HasFileSizeAboveMemorySize : Phdr → Type 0
HasFileSizeAboveMemorySize segment = IsLoad segment × (segment.p_memsz < segment.p_filesz)

abbrev pub file_size_above_memory_size : Ehdr → ℕ → (ℕ → Phdr) → Row ℕ
file_size_above_memory_size h m g = SomeSegment h m g HasFileSizeAboveMemorySize P_FILESZ_AT

-- rule 27: a loadable segment's alignment is neither 0 nor a power of two
abbrev pub HasWrongSegmentAlignment : Phdr → Type 0
HasWrongSegmentAlignment segment = IsLoad segment × IsWrongAlignment segment.p_align

abbrev pub wrong_segment_alignment : Ehdr → ℕ → (ℕ → Phdr) → Row ℕ
wrong_segment_alignment h m g = SomeSegment h m g HasWrongSegmentAlignment P_ALIGN_AT

-- rule 28: a loadable segment's address and offset are not congruent modulo its alignment
abbrev pub IsIncongruentSegment : Phdr → Type 0
IsIncongruentSegment segment = IsLoad segment × (1 < segment.p_align) ×
    (segment.p_vaddr % segment.p_align ≢ segment.p_offset % segment.p_align)

abbrev pub incongruent_segment : Ehdr → ℕ → (ℕ → Phdr) → Row ℕ
incongruent_segment h m g = SomeSegment h m g IsIncongruentSegment P_OFFSET_AT

-- what breaks each of these rules on a segment by itself
abbrev pub BreaksSegment : SegmentRule → Phdr → Type 0
BreaksSegment (SegmentPastEnd len) = IsSegmentPastEnd len
BreaksSegment FileSizeAboveMemorySize = HasFileSizeAboveMemorySize
BreaksSegment WrongSegmentAlignment = HasWrongSegmentAlignment
BreaksSegment IncongruentSegment = IsIncongruentSegment

-- the offset in the program header of the field at which each of them is broken
abbrev pub segment_field : SegmentRule → ℕ
segment_field (SegmentPastEnd len) = P_OFFSET_AT
segment_field FileSizeAboveMemorySize = P_FILESZ_AT
segment_field WrongSegmentAlignment = P_ALIGN_AT
segment_field IncongruentSegment = P_OFFSET_AT

-- k is the nearest loadable segment of a lower index than j
pub record IsLoadBefore (g : ℕ → Phdr) (k j : ℕ) : Type 0 where
  pub below : k < j
  pub load : IsLoad (g k)
  pub nearest : (i : ℕ) → k < i → i < j → IsLoad (g i) → ⊥

-- rule 29: a loadable segment's address is below that of the loadable segment before it
abbrev pub load_out_of_order : Ehdr → ℕ → (ℕ → Phdr) → Row ℕ
load_out_of_order h m g = λ x. (k j : ℕ) × (j < m) × IsLoad (g j) × IsLoadBefore g k j ×
    ((g j).p_vaddr < (g k).p_vaddr) × (x ≡ phdr_offset h j + P_VADDR_AT)

-- rules 25 to 29
unfoldable pub segment_rules : ℕ → Ehdr → ℕ → (ℕ → Phdr) → List {1} (Ruled ℕ)
segment_rules len h m g =
    rule 25 (segment_past_end len h m g) ∷
    rule 26 (file_size_above_memory_size h m g) ∷
    rule 27 (wrong_segment_alignment h m g) ∷
    rule 28 (incongruent_segment h m g) ∷
    rule 29 (load_out_of_order h m g) ∷ []

-- Rules 30 to 32: the section name string table, and the sections' names in it. It is the table of
-- index k, 0 for none, and names is its content, empty without one.
-- (gABI chapter 4, ELF Header: e_shstrndx; String Table; Sections: sh_name.)

-- rule 30: the name table isn't a string table (STRTAB)
abbrev pub wrong_name_table_type : Ehdr → ℕ → (ℕ → Shdr) → Row ℕ
wrong_name_table_type h k s = When ((k ≢ 0) × ((s k).sh_type ≢ SHT_STRTAB)) (shdr_offset h k + SH_TYPE_AT)

-- rule 31: the name table's first or last byte isn't 0
abbrev pub unclosed_name_table : ℕ → (ℕ → Shdr) → List ℕ → Row ℕ
unclosed_name_table k s names = UnclosedAt names (s k).sh_offset

-- rule 32: a section's name begins after the name table
abbrev pub name_past_end : Ehdr → ℕ → (ℕ → Shdr) → List ℕ → Row ℕ
name_past_end h n s names = SomeSectionHeader h n s (IsNamePastEnd (length names)) SH_NAME_AT

-- rules 30 to 32
unfoldable pub section_name_rules : Ehdr → ℕ → ℕ → (ℕ → Shdr) → List ℕ → List {1} (Ruled ℕ)
section_name_rules h n k s names =
    rule 30 (wrong_name_table_type h k s) ∷
    rule 31 (unclosed_name_table k s names) ∷
    rule 32 (name_past_end h n s names) ∷ []

-- Rule 33: no byte of the file belongs to two of its parts.
-- (gABI chapter 4, Sections: "Sections in a file may not overlap".)

-- the extents of n contents, in the order of their section headers
abbrev pub contents : ℕ → (ℕ → Shdr) → List Extent
contents n s = map (λ i. content_extent (s i)) (range_with_len 0 n)

-- the extents of the file: the header, the section table, the program table, and from index 3 on the
-- content of each section, which is empty where it has none; segments own no byte
unfoldable pub extents : Ehdr → ℕ → ℕ → (ℕ → Shdr) → List Extent
extents h n m s =
    record { start = 0; len = EHDR_SIZE } ∷
    record { start = h.e_shoff; len = SHDR_SIZE * n } ∷
    record { start = h.e_phoff; len = PHDR_SIZE * m } ∷
    contents n s

-- rule 33: two extents share a byte
abbrev pub shared_byte : Ehdr → ℕ → ℕ → (ℕ → Shdr) → Row ℕ
shared_byte h n m s = Doubly (extents h n m s)

abbrev pub overlap_rules : Ehdr → ℕ → ℕ → (ℕ → Shdr) → List {1} (Ruled ℕ)
overlap_rules h n m s = rule 33 (shared_byte h n m s) ∷ []

-- the fault of a file whose lowest byte in two extents is this one, where it keeps all other rules
abbrev pub shared_fault : Option ℕ → Option (ℕ × ℕ)
shared_fault None = None
shared_fault (Some x) = Some (33, x)

-- extent j shares the byte at x with one of index below limit
abbrev pub SharedBelow : List Extent → ℕ → ℕ → ℕ → Type 0
SharedBelow es limit j x = (i : ℕ) × (i < limit) × HasAt es i x × HasAt es j x

-- one of the first `count` extents shares the byte at x with an earlier one of index below limit
abbrev pub DoublyBelow : List Extent → ℕ → ℕ → ℕ → Type 0
DoublyBelow es limit count x = (i j : ℕ) × (i < j) × (i < limit) × (j < count) × HasAt es i x × HasAt es j x

-- among the first `count` extents those from index `from` on that are not empty are in the order of the list, each after the ones before it
abbrev pub ExtentsAscend : List Extent → ℕ → ℕ → Type 0
ExtentsAscend es from count = (i j : ℕ) (a e : Extent) → from ≤ i → i < j → j < count →
    slice_get es i ≡ Some a → slice_get es j ≡ Some e → 0 < a.len → 0 < e.len → a.start + a.len ≤ e.start

-- each byte of the extents from index `from` on is at or after the start of `first`, and before the end of `last`
abbrev pub LieBetween : List Extent → ℕ → Extent → Extent → Type 0
LieBetween es from first last = (i x : ℕ) → from ≤ i → HasAt es i x → (first.start ≤ x) × (x < last.start + last.len)

-- the extent ends before `first` starts, or starts after `last` ends
abbrev pub IsOutside : Extent → Extent → Extent → Type 0
IsOutside first last e = (e.start + e.len ≤ first.start) ⊎ (last.start + last.len ≤ e.start)

-- each of the first `count` extents ends before `first` starts, or starts after `last` ends
abbrev pub LieOutside : List Extent → ℕ → Extent → Extent → Type 0
LieOutside es count first last = (i : ℕ) (e : Extent) → i < count → slice_get es i ≡ Some e → IsOutside first last e

-- The rules of an image, and the fault of a file.

-- rules 22 to 32, of as many section headers and program headers as counted
unfoldable pub header_entry_rules : ℕ → Ehdr → Counts → (ℕ → Shdr) → (ℕ → Phdr) → List ℕ → List {1} (Ruled ℕ)
header_entry_rules len h c s g names =
    section_header_rules len h c.sections s ++ (segment_rules len h c.segments g ++ section_name_rules h c.sections c.name_table s names)

-- rules 13 to 32, in order, of a file of len bytes with this header, these section headers and
-- program headers by index, and this content of its section name string table
unfoldable pub header_table_rules : ℕ → Ehdr → (ℕ → Shdr) → (ℕ → Phdr) → List ℕ → List {1} (Ruled ℕ)
header_table_rules len h s g names =
    let first = s 0 in
    section_table_rules len h first ++
    (program_table_rules len h first ++
    header_entry_rules len h (counts_in h first) s g names)

-- rules 1 to 32, in order: those that look at one record at a time, or at the names
unfoldable pub record_rules : ℕ → Ehdr → (ℕ → Shdr) → (ℕ → Phdr) → List ℕ → List {1} (Ruled ℕ)
record_rules len h s g names =
    length_rules len ++ (ident_rules h.e_ident ++ (header_rules len h ++ header_table_rules len h s g names))

-- rules 1 to 33, in order
unfoldable pub image_rules : ℕ → Ehdr → (ℕ → Shdr) → (ℕ → Phdr) → List ℕ → List {1} (Ruled ℕ)
image_rules len h s g names =
    let first = s 0 in
    record_rules len h s g names ++ overlap_rules h (section_header_count h first) (program_header_count h first) s

-- the rules of a file: of what its bytes hold
unfoldable pub rules_in : List ℕ → List {1} (Ruled ℕ)
rules_in b = let h = header b in image_rules (length b) h (sections b h) (segments b h) (names b h)

-- the first rule that the file breaks and its lowest offset, or None
abbrev pub IsFault : List ℕ → Option (ℕ × ℕ) → Type 0
IsFault b found = FirstIn (rules_in b) found

-- the file breaks none of rules 1 to 32; whether two of its parts share a byte is left open
abbrev pub KeepsRecordRules : List ℕ → Type 0
KeepsRecordRules b = let h = header b in FirstIn (record_rules (length b) h (sections b h) (segments b h) (names b h)) None

-- the extents of a file: of what its bytes hold
abbrev pub extents_of_file : List ℕ → List Extent
extents_of_file b =
    let h = header b in
    let first = sections b h 0 in
    extents h (section_header_count h first) (program_header_count h first) (sections b h)
