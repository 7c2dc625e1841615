-- What a file's header, section headers and program headers are, and what they say of the file.
-- (gABI chapter 4, ELF Header with ELF Identification, Sections, String Table; chapter 5, Program Header.)
use Rattle.std.specs.Prelude.{ℕ, ◌+◌, ◌*◌, ◌==◌, ◌||◌, if◌then◌else◌, List, [], get_or, take, drop, slice_index}
use Rattle.elf_field.specs.Abi.{EI_DATA, EI_NIDENT, ELFDATA2MSB, PHDR_SIZE, PN_XNUM, SHDR_SIZE, SHN_XINDEX, SHT_NOBITS, SHT_NULL}
use Rattle.elf_field.specs.declared.number.Order.{Order}
use Rattle.elf_field.specs.declared.number.Order.TheVariants.{Little, Big}
use Rattle.elf_field.specs.declared.ehdr.Ehdr.{Ehdr}
use Rattle.elf_field.specs.declared.shdr.Shdr.{Shdr}
use Rattle.elf_field.specs.declared.phdr.Phdr.{Phdr}
use Rattle.elf_field.specs.Headers.{ehdr_at, shdr_at, phdr_at}
use Rattle.elf_extent.specs.declared.extent.Extent.{Extent}
use Rattle.elf_image_rules.specs.declared.tables.Counts.{Counts}

-- the order that the identification names: any data encoding but ELFDATA2MSB is least significant byte first
unfoldable pub order_of : List ℕ → Order
order_of ident = if slice_index ident EI_DATA == ELFDATA2MSB then Big else Little

-- H(i): the offset in the file of section header i
abbrev pub shdr_offset : Ehdr → ℕ → ℕ
shdr_offset h i = h.e_shoff + SHDR_SIZE * i

-- G(j): the offset in the file of program header j
abbrev pub phdr_offset : Ehdr → ℕ → ℕ
phdr_offset h j = h.e_phoff + PHDR_SIZE * j

-- n, the number of section headers: none without a table, and entry 0's sh_size where e_shnum is 0
abbrev pub section_header_count : Ehdr → Shdr → ℕ
section_header_count h first =
    if h.e_shoff == 0 then 0 else (if h.e_shnum == 0 then first.sh_size else h.e_shnum)

-- m, the number of program headers: entry 0's sh_info where e_phnum is PN_XNUM
abbrev pub program_header_count : Ehdr → Shdr → ℕ
program_header_count h first = if h.e_phnum == PN_XNUM then first.sh_info else h.e_phnum

-- the index of the section name string table, 0 for none: entry 0's sh_link where e_shstrndx is
-- SHN_XINDEX
abbrev pub name_table : Ehdr → Shdr → ℕ
name_table h first = if h.e_shstrndx == SHN_XINDEX then first.sh_link else h.e_shstrndx

-- all three of them
abbrev pub counts_in : Ehdr → Shdr → Counts
counts_in h first = record {
  sections = section_header_count h first;
  segments = program_header_count h first;
  name_table = name_table h first;
}

-- the section header used for one that isn't there
abbrev pub no_section_header : Shdr
no_section_header =
    record {
      sh_name = 0;
      sh_type = 0;
      sh_flags = 0;
      sh_addr = 0;
      sh_offset = 0;
      sh_size = 0;
      sh_link = 0;
      sh_info = 0;
      sh_addralign =
          0;
      sh_entsize = 0;
    }

-- the program header used for one that isn't there
abbrev pub no_program_header : Phdr
no_program_header = record { p_type = 0; p_flags = 0; p_offset = 0; p_vaddr = 0; p_paddr = 0; p_filesz = 0; p_memsz = 0; p_align = 0 }

-- section header i and program header j of a list
abbrev pub section_header_of : List Shdr → ℕ → Shdr
section_header_of ss i = get_or ss i no_section_header

abbrev pub program_header_of : List Phdr → ℕ → Phdr
program_header_of gs j = get_or gs j no_program_header

-- the bytes that a section holds in the file: none of type NULL or NOBITS
abbrev pub content_extent : Shdr → Extent
content_extent entry = record {
  start = entry.sh_offset;
  len = if (entry.sh_type == SHT_NULL) || (entry.sh_type == SHT_NOBITS) then 0 else entry.sh_size;
}

-- the file's header
unfoldable pub header : List ℕ → Ehdr
header b = ehdr_at (order_of (take EI_NIDENT b)) b 0

-- its section headers, by index: all zeros without a section table
unfoldable pub sections : List ℕ → Ehdr → ℕ → Shdr
sections b h i = if h.e_shoff == 0 then no_section_header else shdr_at (order_of h.e_ident) b (shdr_offset h i)

-- its counts of them, and the index of its section name string table
abbrev pub file_counts : List ℕ → Counts
file_counts b = let h = header b in counts_in h (sections b h 0)

-- its program headers, by index
unfoldable pub segments : List ℕ → Ehdr → ℕ → Phdr
segments b h j = phdr_at (order_of h.e_ident) b (phdr_offset h j)

-- the bytes of an extent that lie in the file
abbrev pub bytes_in : List ℕ → Extent → List ℕ
bytes_in b e = take e.len (drop e.start b)

-- the content of the section name string table of index k; 0 is none
unfoldable pub names_at : List ℕ → Ehdr → ℕ → List ℕ
names_at b h k = if k == 0 then [] else bytes_in b (content_extent (sections b h k))

-- the content of the file's section name string table
unfoldable pub names : List ℕ → Ehdr → List ℕ
names b h = names_at b h (name_table h (sections b h 0))
