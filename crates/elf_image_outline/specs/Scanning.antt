-- What the stages of a scan return: a scan reads a source as an image, without its contents.
use Rattle.std.specs.Prelude.{ℕ, List, Some, ◌≡◌, ◌≢◌, ◌≤◌, ◌<◌, ◌^◌, ◌+◌, ◌-◌, ◌⊎◌, ◌==◌, if◌then◌else◌, Option, None, Result, Ok, Err}
use Rattle.std.specs.Prelude.{length, map}
use Rattle.std.specs.List.{AllByRecursion}
use Rattle.elf_extent.specs.Account.{Accounts}
use Rattle.elf_extent.specs.Extent.{Doubly, IsLowest}
use Rattle.elf_extent.specs.declared.extent.Extent.{Extent}
use Rattle.elf_field.specs.Abi.{EHDR_SIZE, SHDR_SIZE}
use Rattle.elf_field.specs.Headers.{IsEhdr, IsPhdr, IsShdr}
use Rattle.elf_field.specs.declared.ehdr.Ehdr.{Ehdr}
use Rattle.elf_field.specs.declared.phdr.Phdr.{Phdr}
use Rattle.elf_field.specs.declared.shdr.Shdr.{Shdr}
use Rattle.elf_image_outline.specs.Image.{part_piece, value_extents}
use Rattle.elf_image_outline.specs.declared.outline.Part.{Part}
use Rattle.elf_image_rules.specs.Rows.{FirstIn}
use Rattle.elf_image_rules.specs.Rules.{IsFault, KeepsRecordRules, MAX_LEN, header_rules, ident_rules, length_rules, image_rules}
use Rattle.elf_image_rules.specs.Rules.{record_rules}
use Rattle.elf_image_rules.specs.Rules.{program_table_rules, section_table_rules}
use Rattle.elf_image_rules.specs.Tables.{bytes_in, content_extent, counts_in, file_counts, header, phdr_offset, program_header_of}
use Rattle.elf_image_rules.specs.Tables.{section_header_of, sections, shdr_offset}
use Rattle.elf_image_rules.specs.declared.tables.Counts.{Counts}
use Rattle.elf_image_stream.specs.declared.fault.BytesFault.TheVariants.{OutOfMemory as NoRoom, Rule as Breaks}
use Rattle.elf_image_stream.specs.declared.fault.BytesFault.{BytesFault}
use Rattle.elf_image_stream.specs.declared.fault.Fault.TheVariants.{OutOfMemory, Io, Rule}
use Rattle.elf_image_stream.specs.declared.fault.Fault.{Fault}

-- the offset of a failed read that is returned; None for any other result
abbrev pub scan_failure : {T : Type 0} → Result T Fault → Option ℕ
scan_failure (Ok t) = None
scan_failure (Err OutOfMemory) = None
scan_failure (Err (Io at)) = Some at
scan_failure (Err (Rule number at)) = None

-- where a file's section name string table is; nowhere without one
abbrev pub names_place : List ℕ → Extent
names_place b = let k = (file_counts b).name_table in
    if k == 0 then record { start = 0; len = 0 } else content_extent (sections b (header b) k)

-- the first or the last byte of an extent, of as much of it as lies in b
abbrev pub IsEndIn : List ℕ → Extent → ℕ → Type 0
IsEndIn b e at = (0 < length (bytes_in b e)) × ((at ≡ e.start) ⊎ (at ≡ e.start + length (bytes_in b e) - 1))

-- what a scan of b asks a source for: an offset of the header, of section header 0, of the two tables by their counts, or the ends of the
-- section name string table
abbrev pub IsScanRead : List ℕ → ℕ → Type 0
IsScanRead b at = let h = header b in
    (at < EHDR_SIZE)
    ⊎ (((h.e_shoff ≤ at) × (at < h.e_shoff + SHDR_SIZE))
    ⊎ (((h.e_shoff ≤ at) × (at < shdr_offset h (file_counts b).sections))
    ⊎ (((h.e_phoff ≤ at) × (at < phdr_offset h (file_counts b).segments))
    ⊎ IsEndIn b (names_place b) at)))

-- rules 1 to 12: the length and the header
pub record KeepsHeadRules (len : ℕ) (h : Ehdr) : Type 0 where
  pub lengths : FirstIn (length_rules len) None
  pub ident : FirstIn (ident_rules h.e_ident) None
  pub header : FirstIn (header_rules len h) None
  -- by rule 9
  pub nameless : h.e_shoff ≡ 0 → h.e_shstrndx ≡ 0

-- rules 1 to 21: those, and the rules on the two tables' places and counts
pub record KeepsTableRules (b : List ℕ) : Type 0 where
  pub head : KeepsHeadRules (length b) (header b)
  pub section_table : FirstIn (section_table_rules (length b) (header b) (sections b (header b) 0)) None
  pub program_table : FirstIn (program_table_rules (length b) (header b) (sections b (header b) 0)) None

-- of a source that reports its bytes b: why there is no outline. A rule that is returned is the first that they break, a failed read lies
-- where a scan reads, and out of memory comes only of bytes that keep rules 1 to 21
abbrev pub Stops : List ℕ → Fault → Type 0
Stops b OutOfMemory = KeepsTableRules b
Stops b (Io at) = IsScanRead b at
Stops b (Rule number at) = IsFault b (Some (number, at))

-- what a step of a scan of b returns: an answer that is right for b, or why there is none
abbrev pub Scans : {T : Type 0} → List ℕ → (T → Type 0) → Result T Fault → Type 0
Scans b IsAnswer (Ok t) = IsAnswer t
Scans b IsAnswer (Err fault) = Stops b fault

-- where the section name string table of index k is; 0 is none
abbrev pub names_extent : List Shdr → ℕ → Extent
names_extent ss k = if k == 0 then record { start = 0; len = 0 } else content_extent (section_header_of ss k)

-- rules 1 to 21, with the tables that the header and section header 0 lead to
pub record HasTables (len : ℕ) (h : Ehdr) (c : Counts) (ss : List Shdr) (gs : List Phdr) : Type 0 where
  pub short : len ≤ MAX_LEN
  pub head : KeepsHeadRules len h
  pub section_table : FirstIn (section_table_rules len h (section_header_of ss 0)) None
  pub program_table : FirstIn (program_table_rules len h (section_header_of ss 0)) None
  pub counts : c ≡ counts_in h (section_header_of ss 0)
  pub section_count : length ss ≡ c.sections
  pub segment_count : length gs ≡ c.segments
  pub sections_inside : shdr_offset h c.sections ≤ len
  pub segments_inside : 0 < c.segments → phdr_offset h c.segments ≤ len
  pub small : c.name_table < 2 ^ 32
  pub named : h.e_shoff ≢ 0 → c.name_table < c.sections
  pub valid_header : IsEhdr h
  pub valid_sections : AllByRecursion IsShdr ss
  pub valid_segments : AllByRecursion IsPhdr gs

-- of such tables and a name table: the first rule that they break; memory is asked for where they keep rules 1 to 32
abbrev pub BreaksTables : ℕ → Ehdr → List Shdr → List Phdr → List ℕ → BytesFault → Type 0
BreaksTables len h ss gs names NoRoom = FirstIn (record_rules len h (section_header_of ss) (program_header_of gs) names) None
BreaksTables len h ss gs names (Breaks number at) =
    FirstIn (image_rules len h (section_header_of ss) (program_header_of gs) names) (Some (number, at))

-- they break none
abbrev pub AreCleanTables : ℕ → Ehdr → List Shdr → List Phdr → List ℕ → Type 0
AreCleanTables len h ss gs names = FirstIn (image_rules len h (section_header_of ss) (program_header_of gs) names) None

-- they break none, and these are the parts of a file that has them
pub record KeepTables (len : ℕ) (h : Ehdr) (ss : List Shdr) (gs : List Phdr) (names : List ℕ) (ps : List Part) : Type 0 where
  pub clean : AreCleanTables len h ss gs names
  pub accounts : Accounts (value_extents h ss gs) len 0 (map part_piece ps)

-- of these extents: rule 33 with the lowest byte that two of them hold; or out of memory
abbrev pub IsSharedFault : List Extent → BytesFault → Type 0
IsSharedFault es NoRoom = Unit {0}
IsSharedFault es (Breaks number at) = (number ≡ 33) × IsLowest (Doubly es) (Some at)

-- of a file in memory: the first rule that it breaks, at its lowest offset; out of memory comes only where it keeps rules 1 to 32
abbrev pub StopsInMemory : List ℕ → BytesFault → Type 0
StopsInMemory b NoRoom = KeepsRecordRules b
StopsInMemory b (Breaks number at) = IsFault b (Some (number, at))
