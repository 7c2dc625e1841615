-- What a file has that keeps the rules: one fact for each rule. Each says where it is from: a section of the standard, or this project's
-- profile, which is the longest file, the one class that is served, and that the header and the tables share no byte with anything.
-- (gABI chapter 4, ELF Header with ELF Identification, Sections, String Table; chapter 5, Program Header.)
use Rattle.std.specs.Prelude.{◌≡◌, ◌≢◌, ◌<◌, ◌≤◌, ◌+◌, ℕ, ◌-◌, ◌%◌, ◌⊎◌, List, length, slice_index, None, [], ◌∷◌}
use Rattle.std.specs.Int.{IsPowerOfTwo}
use Rattle.elf_extent.specs.Extent.{AreDisjoint}
use Rattle.elf_field.specs.Abi.{EHDR_SIZE, PN_XNUM, SHT_NOBITS, SHT_NULL, EI_CLASS, EI_DATA, EI_VERSION, ELFCLASS64, ELFDATA2LSB}
use Rattle.elf_field.specs.Abi.{ELFDATA2MSB, EV_CURRENT, MAGIC, PHDR_SIZE, PT_NULL, SHDR_SIZE, SHN_LORESERVE, SHN_XINDEX, SHT_STRTAB}
use Rattle.elf_field.specs.declared.ehdr.Ehdr.{Ehdr}
use Rattle.elf_field.specs.declared.phdr.Phdr.{Phdr}
use Rattle.elf_field.specs.declared.shdr.Shdr.{Shdr}
use Rattle.elf_image_rules.specs.Rows.{FirstIn, Ruled}
use Rattle.elf_image_rules.specs.Rules.{MAX_LEN, extents, IsLoad, IsLoadBefore, KeepsRecordRules}
use Rattle.elf_image_rules.specs.Tables.{name_table, phdr_offset, program_header_count, section_header_count, shdr_offset}

-- What follows from rules 1 to 32 for reading: the header, the two tables and each content lie in the file.
-- (gABI chapter 4, ELF Header and Sections; chapter 5, Program Header.)

pub record HasSoundTables (len : ℕ) (h : Ehdr) (s : ℕ → Shdr) : Type 0 where
  -- the header lies in a file that is not too long
  pub header : EHDR_SIZE ≤ len
  pub short : len ≤ MAX_LEN
  -- without a section table there is no name table, and the count of segments is in the header
  pub no_names : h.e_shoff ≡ 0 → h.e_shstrndx ≡ 0
  pub few_segments : h.e_shoff ≡ 0 → h.e_phnum ≢ PN_XNUM
  -- with one, section header 0 is there and of type NULL, and the table and the name table are
  pub null : h.e_shoff ≢ 0 → (s 0).sh_type ≡ SHT_NULL
  pub some : h.e_shoff ≢ 0 → 0 < section_header_count h (s 0)
  pub section_table : h.e_shoff ≢ 0 → shdr_offset h (section_header_count h (s 0)) ≤ len
  pub name_table : h.e_shoff ≢ 0 → name_table h (s 0) < section_header_count h (s 0)
  -- the program table lies in the file, and so does each content that is not empty
  pub program_table : 0 < program_header_count h (s 0) → phdr_offset h (program_header_count h (s 0)) ≤ len
  pub content : (i : ℕ) → 0 < i → i < section_header_count h (s 0) → (s i).sh_type ≢ SHT_NULL → (s i).sh_type ≢ SHT_NOBITS →
      0 < (s i).sh_size →
      (s i).sh_offset + (s i).sh_size ≤ len

-- rules 1 and 2: the file has a header, and is not longer than the longest
pub record KeepsLengthRules (len : ℕ) : Type 0 where
  -- 1, too_long (profile)
  pub not_too_long : len ≤ MAX_LEN
  -- 2, too_short (gABI, ELF Header)
  pub not_too_short : EHDR_SIZE ≤ len

-- rules 3 to 6: the magic number, the class, the data encoding, the version of the identification
pub record KeepsIdentRules (ident : List ℕ) : Type 0 where
  -- 3, wrong_magic (gABI, ELF Identification)
  pub magic : (i : ℕ) → i < length MAGIC → slice_index ident i ≡ slice_index MAGIC i
  -- 4, wrong_class (gABI, ELF Identification; that no other class is served: profile)
  pub class : slice_index ident EI_CLASS ≡ ELFCLASS64
  -- 5, wrong_data (gABI, ELF Identification)
  pub encoding : (slice_index ident EI_DATA ≡ ELFDATA2LSB) ⊎ (slice_index ident EI_DATA ≡ ELFDATA2MSB)
  -- 6, wrong_ident_version (gABI, ELF Identification)
  pub ident_version : slice_index ident EI_VERSION ≡ EV_CURRENT

-- rules 7 to 12: the file's version, the header's own size, and where the section table begins
pub record KeepsHeaderRules (len : ℕ) (h : Ehdr) : Type 0 where
  -- 7, wrong_version (gABI, ELF Header)
  pub version : h.e_version ≡ EV_CURRENT
  -- 8, wrong_header_size (gABI, ELF Header)
  pub header_size : h.e_ehsize ≡ EHDR_SIZE
  -- 9, count_without_section_table (gABI, ELF Header): without a section table there is no count of sections, and no name table
  pub no_sections : h.e_shoff ≡ 0 → (h.e_shnum ≡ 0) × (h.e_shstrndx ≡ 0)
  -- 10, wrong_section_header_size (gABI, ELF Header)
  pub section_header_size : h.e_shoff ≢ 0 → h.e_shentsize ≡ SHDR_SIZE
  -- 11, reserved_section_count (gABI, ELF Header, Sections)
  pub unreserved_count : h.e_shnum < SHN_LORESERVE
  -- 12, first_section_header_past_end (gABI, Sections)
  pub first_section_header : h.e_shoff ≢ 0 → h.e_shoff + SHDR_SIZE ≤ len

-- rule 13: section header 0 is zero but for the fields that hold what the header cannot
pub record IsNullHeader (first : Shdr) : Type 0 where
  pub sh_name : first.sh_name ≡ 0
  pub sh_type : first.sh_type ≡ SHT_NULL
  pub sh_flags : first.sh_flags ≡ 0
  pub sh_addr : first.sh_addr ≡ 0
  pub sh_offset : first.sh_offset ≡ 0
  pub sh_addralign : first.sh_addralign ≡ 0
  pub sh_entsize : first.sh_entsize ≡ 0

-- rules 13 to 17: section header 0, the section table's offset, and the name table's index
pub record KeepsSectionTableRules (len : ℕ) (h : Ehdr) (first : Shdr) : Type 0 where
  -- 13, first_section_header_not_null (gABI, Sections)
  pub null : h.e_shoff ≢ 0 → IsNullHeader first
  -- 14, wrong_extended_section_count (gABI, Sections): sh_size is the count of sections where e_shnum can't hold it, else 0
  pub extended_section_count : h.e_shoff ≢ 0 →
      (h.e_shnum ≢ 0 → first.sh_size ≡ 0) × (h.e_shnum ≡ 0 → SHN_LORESERVE ≤ first.sh_size)
  -- 15, section_table_past_end (gABI, Sections)
  pub section_table : h.e_shoff ≢ 0 → shdr_offset h (section_header_count h first) ≤ len
  -- 16, wrong_name_table_index (gABI, ELF Header)
  pub name_table_index : h.e_shoff ≢ 0 → h.e_shstrndx ≢ SHN_XINDEX →
      (h.e_shstrndx < SHN_LORESERVE) × (h.e_shstrndx < section_header_count h first)
  -- 17, wrong_extended_name_table_index (gABI, Sections): sh_link is the name table's index where e_shstrndx can't hold it, else 0
  pub extended_name_table_index : h.e_shoff ≢ 0 →
      (h.e_shstrndx ≡ SHN_XINDEX → (SHN_LORESERVE ≤ first.sh_link) × (first.sh_link < section_header_count h first)) ×
      (h.e_shstrndx ≢ SHN_XINDEX → first.sh_link ≡ 0)

-- rules 18 to 21: the program table's count and offset
pub record KeepsProgramTableRules (len : ℕ) (h : Ehdr) (first : Shdr) : Type 0 where
  -- 18, wrong_segment_count (gABI, ELF Header): there is a count just where there is a table, and a section header 0 where that has it
  pub table_and_count : (h.e_phoff ≡ 0 → h.e_phnum ≡ 0) × (h.e_phnum ≡ 0 → h.e_phoff ≡ 0) × (h.e_phnum ≡ PN_XNUM → h.e_shoff ≢ 0)
  -- 19, wrong_program_header_size (gABI, ELF Header)
  pub program_header_size : h.e_phnum ≢ 0 → h.e_phentsize ≡ PHDR_SIZE
  -- 20, wrong_extended_segment_count (gABI, Sections): sh_info is the count of segments where e_phnum can't hold it, else 0
  pub extended_segment_count : h.e_shoff ≢ 0 →
      (h.e_phnum ≡ PN_XNUM → PN_XNUM ≤ first.sh_info) × (h.e_phnum ≢ PN_XNUM → first.sh_info ≡ 0)
  -- 21, program_table_past_end (gABI chapter 5, Program Header)
  pub program_table : 0 < program_header_count h first → phdr_offset h (program_header_count h first) ≤ len

-- an alignment is 0, for none, or a power of two
abbrev pub IsAlignment : ℕ → Type 0
IsAlignment align = (align ≡ 0) ⊎ IsPowerOfTwo align

-- each of n sections but entry 0 and those of type NULL
abbrev pub EachSectionHeader : ℕ → (ℕ → Shdr) → (Shdr → Type 0) → Type 0
EachSectionHeader n s P = (i : ℕ) → 1 ≤ i → i < n → (s i).sh_type ≢ SHT_NULL → P (s i)

-- rules 22 to 24: the sections' alignments, addresses and contents
pub record KeepsSectionRules (len n : ℕ) (s : ℕ → Shdr) : Type 0 where
  -- 22, wrong_section_alignment (gABI, Sections)
  pub alignment : EachSectionHeader n s (λ entry. IsAlignment entry.sh_addralign)
  -- 23, misaligned_section (gABI, Sections)
  pub address : EachSectionHeader n s (λ entry. 1 < entry.sh_addralign → entry.sh_addr % entry.sh_addralign ≡ 0)
  -- 24, content_past_end (gABI, Sections)
  pub content : EachSectionHeader n s (λ entry. entry.sh_type ≢ SHT_NOBITS → 0 < entry.sh_size → entry.sh_offset + entry.sh_size ≤ len)

-- each of m segments
abbrev pub EachSegment : ℕ → (ℕ → Phdr) → (Phdr → Type 0) → Type 0
EachSegment m g P = (j : ℕ) → j < m → P (g j)

-- rules 25 to 29: the segments' bytes, sizes, alignments, addresses and order
pub record KeepsSegmentRules (len m : ℕ) (g : ℕ → Phdr) : Type 0 where
  -- 25, segment_past_end (gABI chapter 5, Program Header)
  pub bytes : EachSegment m g (λ segment. segment.p_type ≢ PT_NULL → 0 < segment.p_filesz → segment.p_offset + segment.p_filesz ≤ len)
  -- 26, file_size_above_memory_size (gABI chapter 5, Program Header)
  pub sizes : EachSegment m g (λ segment. IsLoad segment → segment.p_filesz ≤ segment.p_memsz)
  -- 27, wrong_segment_alignment (gABI chapter 5, Program Header)
  pub alignment : EachSegment m g (λ segment. IsLoad segment → IsAlignment segment.p_align)
  -- 28, incongruent_segment (gABI chapter 5, Program Header)
  pub congruence : EachSegment m g (λ segment. IsLoad segment → 1 < segment.p_align →
      segment.p_vaddr % segment.p_align ≡ segment.p_offset % segment.p_align)
  -- 29, load_out_of_order (gABI chapter 5, Program Header)
  pub order : (k j : ℕ) → j < m → IsLoad (g j) → IsLoadBefore g k j → (g k).p_vaddr ≤ (g j).p_vaddr

-- rules 30 to 32: the section name string table, and the names in it
pub record KeepsNameRules (n k : ℕ) (s : ℕ → Shdr) (names : List ℕ) : Type 0 where
  -- 30, wrong_name_table_type (gABI, Sections)
  pub name_table_type : k ≢ 0 → (s k).sh_type ≡ SHT_STRTAB
  -- 31, unclosed_name_table (gABI, String Table)
  pub closed : 0 < length names → (slice_index names 0 ≡ 0) × (slice_index names (length names - 1) ≡ 0)
  -- 32, name_past_end (gABI, Sections, String Table)
  pub names_begin : EachSectionHeader n s (λ entry. entry.sh_name ≢ 0 → entry.sh_name < length names)

-- rules 1 to 32
pub record KeepsEachRecordRule (len : ℕ) (h : Ehdr) (s : ℕ → Shdr) (g : ℕ → Phdr) (names : List ℕ) : Type 0 where
  pub file_length : KeepsLengthRules len
  pub ident : KeepsIdentRules h.e_ident
  pub header : KeepsHeaderRules len h
  pub section_table : KeepsSectionTableRules len h (s 0)
  pub program_table : KeepsProgramTableRules len h (s 0)
  pub sections : KeepsSectionRules len (section_header_count h (s 0)) s
  pub segments : KeepsSegmentRules len (program_header_count h (s 0)) g
  pub section_names : KeepsNameRules (section_header_count h (s 0)) (name_table h (s 0)) s names

-- all rules: also 33, no byte of the file belongs to two of its parts
pub record KeepsRules (len : ℕ) (h : Ehdr) (s : ℕ → Shdr) (g : ℕ → Phdr) (names : List ℕ) : Type 0 where
  pub records : KeepsEachRecordRule len h s g names
  -- 33, shared_byte (gABI, Sections: of contents; of the header and the two tables: profile)
  pub disjoint : AreDisjoint (extents h (section_header_count h (s 0)) (program_header_count h (s 0)) s)

-- That no rule is broken has no content beside that it holds: a type can have it as an invariant.

pub unbroken_prop : (rules : List {1} (Ruled ℕ)) → IsProp (FirstIn rules None)
unbroken_prop [] = hlevel
unbroken_prop (r ∷ rules) = hlevel (unbroken_prop rules)

pub kept_prop : (b : List ℕ) → IsProp (KeepsRecordRules b)
kept_prop b = unbroken_prop _
