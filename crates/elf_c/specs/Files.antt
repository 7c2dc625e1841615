-- The numbers of a file that its accessors need, and what they say about it.
use Rattle.std.specs.Prelude.{◌≡◌, ◌≢◌, ◌<◌, ◌≤◌, ◌+◌, ◌*◌, ◌==◌, if◌then◌else◌, ℕ, List, [], Option, SomeIff, length, slice_index, map}
use Rattle.std.specs.List.{range_with_len}
use Rattle.elf_c.specs.declared.shapes.File.{File}
use Rattle.elf_c.specs.declared.shapes.Header.{Header}
use Rattle.elf_c.specs.declared.shapes.Section.{Section}
use Rattle.elf_c.specs.declared.shapes.Segment.{Segment}
use Rattle.elf_field.specs.Abi.{EHDR_SIZE, EI_DATA, ELFDATA2MSB, SHDR_SIZE, SHT_NULL}
use Rattle.elf_field.specs.Headers.{shdr_at}
use Rattle.elf_field.specs.declared.ehdr.Ehdr.{Ehdr}
use Rattle.elf_field.specs.declared.number.Order.TheVariants.{Little, Big}
use Rattle.elf_field.specs.declared.number.Order.{Order}
use Rattle.elf_field.specs.declared.phdr.Phdr.{Phdr}
use Rattle.elf_field.specs.declared.shdr.Shdr.{Shdr}
use Rattle.elf_image_rules.specs.Rules.{KeepsRecordRules}
use Rattle.elf_image_rules.specs.Tables.{file_counts, header, names, sections, segments}
use Rattle.elf_field.specs.Strings.{string}

-- the header lies in the file, and section header 0 does, where there is a section table: they have the counts
abbrev pub HasCounts : List ℕ → Type 0
HasCounts b =
    let h = header b in
    (EHDR_SIZE ≤ length b) × (h.e_shoff ≢ 0 → h.e_shoff + SHDR_SIZE ≤ length b)

-- the numbers of a file: of what its bytes hold
abbrev pub file_in : List ℕ → File
file_in b =
    let h = header b in
    let counts = file_counts b in
    record {
      e_phoff = h.e_phoff;
      e_shoff = h.e_shoff;
      sections = counts.sections;
      segments = counts.segments;
      name_table = counts.name_table;
      ei_data = slice_index h.e_ident EI_DATA;
    }

-- the bytes break none of rules 1 to 32, and these are their numbers
pub record IsFileOf (file : File) (b : List ℕ) : Type 0 where
  pub kept : KeepsRecordRules b
  pub numbers : file ≡ file_in b

-- the order that a data encoding names
abbrev pub order_named : ℕ → Order
order_named ei_data = if ei_data == ELFDATA2MSB then Big else Little

abbrev pub file_order : File → Order
file_order file = order_named file.ei_data

-- a table of so many entries has one of this index, which lies in a file of len bytes
abbrev pub HasEntry : ℕ → ℕ → ℕ → ℕ → ℕ → Type 0
HasEntry count table size index len = (index < count) × (table + size * index + size ≤ len)

-- section header i lies in a file of these bytes
abbrev pub HasSectionHeader : File → List ℕ → ℕ → Type 0
HasSectionHeader f b i = HasEntry f.sections f.e_shoff SHDR_SIZE i (length b)

-- and that of the section name string table does too, where its name is looked for there
abbrev pub HasName : File → List ℕ → ℕ → Type 0
HasName f b i =
    HasSectionHeader f b i ×
    ((shdr_at (file_order f) b (f.e_shoff + SHDR_SIZE * i)).sh_type ≢ SHT_NULL → f.name_table ≢ 0 → HasSectionHeader f b f.name_table)

-- the name of section i: a string of the section name string table, and empty for an entry of type NULL
abbrev pub name_of_section : List ℕ → ℕ → List ℕ
name_of_section b i =
    let h = header b in
    let s = sections b h i in
    if s.sh_type == SHT_NULL then [] else string (names b h) s.sh_name

-- Records in the shapes that C has: field by field.

-- the ELF header
abbrev pub header_shape : Ehdr → Header
header_shape h = record {
  e_ident = h.e_ident;
  e_type = h.e_type;
  e_machine = h.e_machine;
  e_version = h.e_version;
  e_entry = h.e_entry;
  e_phoff = h.e_phoff;
  e_shoff = h.e_shoff;
  e_flags = h.e_flags;
  e_ehsize = h.e_ehsize;
  e_phentsize = h.e_phentsize;
  e_phnum = h.e_phnum;
  e_shentsize = h.e_shentsize;
  e_shnum = h.e_shnum;
  e_shstrndx = h.e_shstrndx;
}

-- a section header
abbrev pub section_shape : Shdr → Section
section_shape s = record {
  sh_name = s.sh_name;
  sh_type = s.sh_type;
  sh_flags = s.sh_flags;
  sh_addr = s.sh_addr;
  sh_offset = s.sh_offset;
  sh_size = s.sh_size;
  sh_link = s.sh_link;
  sh_info = s.sh_info;
  sh_addralign = s.sh_addralign;
  sh_entsize = s.sh_entsize;
}

-- a program header
abbrev pub segment_shape : Phdr → Segment
segment_shape p = record {
  p_type = p.p_type;
  p_flags = p.p_flags;
  p_offset = p.p_offset;
  p_vaddr = p.p_vaddr;
  p_paddr = p.p_paddr;
  p_filesz = p.p_filesz;
  p_memsz = p.p_memsz;
  p_align = p.p_align;
}

-- What is found at an index.

-- r is section header j by the numbers of a file, whatever they are; None if it is not there
abbrev pub ReadsSection : File → List ℕ → ℕ → Option Section → Type 0
ReadsSection f b j r = SomeIff r (HasSectionHeader f b j) (section_shape (shdr_at (file_order f) b (f.e_shoff + SHDR_SIZE * j)))

-- r is section header j of a file that breaks none of rules 1 to 32; None if it has no more
abbrev pub ListsSection : List ℕ → ℕ → Option Section → Type 0
ListsSection b j r = SomeIff r (j < (file_counts b).sections) (section_shape (sections b (header b) j))

-- The program headers of a file, as a list.

abbrev pub segments_listed : List ℕ → List Phdr
segments_listed b = map (segments b (header b)) (range_with_len 0 (file_counts b).segments)

-- What is returned if a buffer is too small for the verdict.

-- what is in place of a rule's number if the buffer is too small
abbrev pub SHORT_ROOM : ℕ
SHORT_ROOM = 0
