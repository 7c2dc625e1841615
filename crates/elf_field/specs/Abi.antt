-- Numbers of the gABI by their names there, chapters 4 (Object Files) and 5 (Program Loading and Dynamic Linking). Where the gABI has no
-- name of its own, a size is .._SIZE and the offset of a field in its record .._AT, in bytes. The code has these numbers a second time
-- (`src/abi.rt`): if definitions used the code's constants, they would change with a wrong one.
use Rattle.std.specs.Prelude.{ℕ, ℤ, pos, Bool, true, false, List, [], ◌∷◌}

-- ---- e_ident: the identification (chapter 4, ELF Identification)

-- how many identification bytes there are
abbrev pub EI_NIDENT : ℕ
EI_NIDENT = 16

-- the first four identification bytes: ELFMAG0 to ELFMAG3
abbrev pub MAGIC : List ℕ
MAGIC = 0x7f ∷ 0x45 ∷ 0x4c ∷ 0x46 ∷ []

-- identification byte of the class
abbrev pub EI_CLASS : ℕ
EI_CLASS = 4

-- identification byte of the data encoding
abbrev pub EI_DATA : ℕ
EI_DATA = 5

-- identification byte of the version
abbrev pub EI_VERSION : ℕ
EI_VERSION = 6

-- identification byte of the operating system's extensions
abbrev pub EI_OSABI : ℕ
EI_OSABI = 7

-- identification byte of these extensions' version
abbrev pub EI_ABIVERSION : ℕ
EI_ABIVERSION = 8

-- where the identification's padding begins
abbrev pub EI_PAD : ℕ
EI_PAD = 9

-- 64-bit objects
abbrev pub ELFCLASS64 : ℕ
ELFCLASS64 = 2

-- least significant byte first
abbrev pub ELFDATA2LSB : ℕ
ELFDATA2LSB = 1

-- most significant byte first
abbrev pub ELFDATA2MSB : ℕ
ELFDATA2MSB = 2

-- the current version of the format
abbrev pub EV_CURRENT : ℕ
EV_CURRENT = 1

-- ---- Ehdr: the ELF header (chapter 4, ELF Header)

-- size of an ELF header
abbrev pub EHDR_SIZE : ℕ
EHDR_SIZE = 64

-- offset of e_type
abbrev pub E_TYPE_AT : ℕ
E_TYPE_AT = 16

-- offset of e_machine
abbrev pub E_MACHINE_AT : ℕ
E_MACHINE_AT = 18

-- offset of e_version
abbrev pub E_VERSION_AT : ℕ
E_VERSION_AT = 20

-- offset of e_entry
abbrev pub E_ENTRY_AT : ℕ
E_ENTRY_AT = 24

-- offset of e_phoff
abbrev pub E_PHOFF_AT : ℕ
E_PHOFF_AT = 32

-- offset of e_shoff
abbrev pub E_SHOFF_AT : ℕ
E_SHOFF_AT = 40

-- offset of e_flags
abbrev pub E_FLAGS_AT : ℕ
E_FLAGS_AT = 48

-- offset of e_ehsize
abbrev pub E_EHSIZE_AT : ℕ
E_EHSIZE_AT = 52

-- offset of e_phentsize
abbrev pub E_PHENTSIZE_AT : ℕ
E_PHENTSIZE_AT = 54

-- offset of e_phnum
abbrev pub E_PHNUM_AT : ℕ
E_PHNUM_AT = 56

-- offset of e_shentsize
abbrev pub E_SHENTSIZE_AT : ℕ
E_SHENTSIZE_AT = 58

-- offset of e_shnum
abbrev pub E_SHNUM_AT : ℕ
E_SHNUM_AT = 60

-- offset of e_shstrndx
abbrev pub E_SHSTRNDX_AT : ℕ
E_SHSTRNDX_AT = 62

-- no file type
abbrev pub ET_NONE : ℕ
ET_NONE = 0

-- a relocatable file
abbrev pub ET_REL : ℕ
ET_REL = 1

-- an executable file
abbrev pub ET_EXEC : ℕ
ET_EXEC = 2

-- a shared object file
abbrev pub ET_DYN : ℕ
ET_DYN = 3

-- a core file
abbrev pub ET_CORE : ℕ
ET_CORE = 4

-- in e_phnum: the count is in section header 0's sh_info
abbrev pub PN_XNUM : ℕ
PN_XNUM = 0xffff

-- ---- Special section indexes (chapter 4, Sections)

-- no section
abbrev pub SHN_UNDEF : ℕ
SHN_UNDEF = 0

-- the lowest reserved section index
abbrev pub SHN_LORESERVE : ℕ
SHN_LORESERVE = 0xff00

-- the symbol's value is absolute: no relocation changes it
abbrev pub SHN_ABS : ℕ
SHN_ABS = 0xfff1

-- the symbol is a common block that has no place yet
abbrev pub SHN_COMMON : ℕ
SHN_COMMON = 0xfff2

-- the index is elsewhere: for e_shstrndx in section header 0's sh_link, for st_shndx in the symbol table's section of type SHT_SYMTAB_SHNDX
abbrev pub SHN_XINDEX : ℕ
SHN_XINDEX = 0xffff

-- ---- Shdr: a section header (chapter 4, Sections)

-- size of a section header
abbrev pub SHDR_SIZE : ℕ
SHDR_SIZE = 64

-- offset of sh_name
abbrev pub SH_NAME_AT : ℕ
SH_NAME_AT = 0

-- offset of sh_type
abbrev pub SH_TYPE_AT : ℕ
SH_TYPE_AT = 4

-- offset of sh_flags
abbrev pub SH_FLAGS_AT : ℕ
SH_FLAGS_AT = 8

-- offset of sh_addr
abbrev pub SH_ADDR_AT : ℕ
SH_ADDR_AT = 16

-- offset of sh_offset
abbrev pub SH_OFFSET_AT : ℕ
SH_OFFSET_AT = 24

-- offset of sh_size
abbrev pub SH_SIZE_AT : ℕ
SH_SIZE_AT = 32

-- offset of sh_link
abbrev pub SH_LINK_AT : ℕ
SH_LINK_AT = 40

-- offset of sh_info
abbrev pub SH_INFO_AT : ℕ
SH_INFO_AT = 44

-- offset of sh_addralign
abbrev pub SH_ADDRALIGN_AT : ℕ
SH_ADDRALIGN_AT = 48

-- offset of sh_entsize
abbrev pub SH_ENTSIZE_AT : ℕ
SH_ENTSIZE_AT = 56

-- a section header without a section
abbrev pub SHT_NULL : ℕ
SHT_NULL = 0

-- what the program defines: its code and data
abbrev pub SHT_PROGBITS : ℕ
SHT_PROGBITS = 1

-- a symbol table
abbrev pub SHT_SYMTAB : ℕ
SHT_SYMTAB = 2

-- a string table
abbrev pub SHT_STRTAB : ℕ
SHT_STRTAB = 3

-- relocations with addends
abbrev pub SHT_RELA : ℕ
SHT_RELA = 4

-- a symbol hash table
abbrev pub SHT_HASH : ℕ
SHT_HASH = 5

-- what dynamic linking needs
abbrev pub SHT_DYNAMIC : ℕ
SHT_DYNAMIC = 6

-- notes
abbrev pub SHT_NOTE : ℕ
SHT_NOTE = 7

-- a section that has no bytes in the file
abbrev pub SHT_NOBITS : ℕ
SHT_NOBITS = 8

-- relocations without addends
abbrev pub SHT_REL : ℕ
SHT_REL = 9

-- reserved, with no meaning
abbrev pub SHT_SHLIB : ℕ
SHT_SHLIB = 10

-- the symbol table of dynamic linking
abbrev pub SHT_DYNSYM : ℕ
SHT_DYNSYM = 11

-- pointers to initialization functions
abbrev pub SHT_INIT_ARRAY : ℕ
SHT_INIT_ARRAY = 14

-- pointers to termination functions
abbrev pub SHT_FINI_ARRAY : ℕ
SHT_FINI_ARRAY = 15

-- pointers to functions that are called before all other initialization functions
abbrev pub SHT_PREINIT_ARRAY : ℕ
SHT_PREINIT_ARRAY = 16

-- a section group
abbrev pub SHT_GROUP : ℕ
SHT_GROUP = 17

-- the section indexes that a symbol table's st_shndx cannot hold
abbrev pub SHT_SYMTAB_SHNDX : ℕ
SHT_SYMTAB_SHNDX = 18

-- can be written while the program runs
abbrev pub SHF_WRITE : ℕ
SHF_WRITE = 0x1

-- takes memory while the program runs
abbrev pub SHF_ALLOC : ℕ
SHF_ALLOC = 0x2

-- machine instructions
abbrev pub SHF_EXECINSTR : ℕ
SHF_EXECINSTR = 0x4

-- equal entries may be merged
abbrev pub SHF_MERGE : ℕ
SHF_MERGE = 0x10

-- the entries are strings that end in a zero
abbrev pub SHF_STRINGS : ℕ
SHF_STRINGS = 0x20

-- sh_info is a section header table index
abbrev pub SHF_INFO_LINK : ℕ
SHF_INFO_LINK = 0x40

-- ordered as the section that sh_link names
abbrev pub SHF_LINK_ORDER : ℕ
SHF_LINK_ORDER = 0x80

-- a member of a section group
abbrev pub SHF_GROUP : ℕ
SHF_GROUP = 0x200

-- thread-local storage
abbrev pub SHF_TLS : ℕ
SHF_TLS = 0x400

-- size of a word of a section group, a hash table, or a table of section indexes
abbrev pub WORD_SIZE : ℕ
WORD_SIZE = 4

-- a group's flag: only one of the groups of this signature is kept
abbrev pub GRP_COMDAT : ℕ
GRP_COMDAT = 0x1

-- ---- Sym: a symbol (chapter 4, Symbol Table)

-- size of a symbol
abbrev pub SYM_SIZE : ℕ
SYM_SIZE = 24

-- offset of st_name
abbrev pub ST_NAME_AT : ℕ
ST_NAME_AT = 0

-- offset of st_info
abbrev pub ST_INFO_AT : ℕ
ST_INFO_AT = 4

-- offset of st_other
abbrev pub ST_OTHER_AT : ℕ
ST_OTHER_AT = 5

-- offset of st_shndx
abbrev pub ST_SHNDX_AT : ℕ
ST_SHNDX_AT = 6

-- offset of st_value
abbrev pub ST_VALUE_AT : ℕ
ST_VALUE_AT = 8

-- offset of st_size
abbrev pub ST_SIZE_AT : ℕ
ST_SIZE_AT = 16

-- not seen outside its object file
abbrev pub STB_LOCAL : ℕ
STB_LOCAL = 0

-- seen by all object files that are linked
abbrev pub STB_GLOBAL : ℕ
STB_GLOBAL = 1

-- as a global symbol, but of lower precedence
abbrev pub STB_WEAK : ℕ
STB_WEAK = 2

-- no type
abbrev pub STT_NOTYPE : ℕ
STT_NOTYPE = 0

-- a data object
abbrev pub STT_OBJECT : ℕ
STT_OBJECT = 1

-- a function
abbrev pub STT_FUNC : ℕ
STT_FUNC = 2

-- a section
abbrev pub STT_SECTION : ℕ
STT_SECTION = 3

-- the source file's name
abbrev pub STT_FILE : ℕ
STT_FILE = 4

-- a common block that has no place yet
abbrev pub STT_COMMON : ℕ
STT_COMMON = 5

-- thread-local storage
abbrev pub STT_TLS : ℕ
STT_TLS = 6

-- ---- Rel and Rela: relocations (chapter 4, Relocation)

-- size of a relocation without an addend
abbrev pub REL_SIZE : ℕ
REL_SIZE = 16

-- offset of r_offset
abbrev pub R_OFFSET_AT : ℕ
R_OFFSET_AT = 0

-- size of a relocation with an addend
abbrev pub RELA_SIZE : ℕ
RELA_SIZE = 24

-- size of a relocation, with an addend or without
abbrev pub relocation_size : Bool → ℕ
relocation_size true = RELA_SIZE
relocation_size false = REL_SIZE

-- offset of r_info, in either
abbrev pub R_INFO_AT : ℕ
R_INFO_AT = 8

-- offset of r_addend
abbrev pub R_ADDEND_AT : ℕ
R_ADDEND_AT = 16

-- ---- Phdr: a program header (chapter 5, Program Header)

-- size of a program header
abbrev pub PHDR_SIZE : ℕ
PHDR_SIZE = 56

-- offset of p_type
abbrev pub P_TYPE_AT : ℕ
P_TYPE_AT = 0

-- offset of p_flags
abbrev pub P_FLAGS_AT : ℕ
P_FLAGS_AT = 4

-- offset of p_offset
abbrev pub P_OFFSET_AT : ℕ
P_OFFSET_AT = 8

-- offset of p_vaddr
abbrev pub P_VADDR_AT : ℕ
P_VADDR_AT = 16

-- offset of p_paddr
abbrev pub P_PADDR_AT : ℕ
P_PADDR_AT = 24

-- offset of p_filesz
abbrev pub P_FILESZ_AT : ℕ
P_FILESZ_AT = 32

-- offset of p_memsz
abbrev pub P_MEMSZ_AT : ℕ
P_MEMSZ_AT = 40

-- offset of p_align
abbrev pub P_ALIGN_AT : ℕ
P_ALIGN_AT = 48

-- a program header without a segment
abbrev pub PT_NULL : ℕ
PT_NULL = 0

-- a loadable segment
abbrev pub PT_LOAD : ℕ
PT_LOAD = 1

-- what dynamic linking needs
abbrev pub PT_DYNAMIC : ℕ
PT_DYNAMIC = 2

-- the name of an interpreter
abbrev pub PT_INTERP : ℕ
PT_INTERP = 3

-- notes
abbrev pub PT_NOTE : ℕ
PT_NOTE = 4

-- reserved, with no meaning
abbrev pub PT_SHLIB : ℕ
PT_SHLIB = 5

-- the program table itself
abbrev pub PT_PHDR : ℕ
PT_PHDR = 6

-- the template of thread-local storage
abbrev pub PT_TLS : ℕ
PT_TLS = 7

-- may be executed
abbrev pub PF_X : ℕ
PF_X = 0x1

-- may be written
abbrev pub PF_W : ℕ
PF_W = 0x2

-- may be read
abbrev pub PF_R : ℕ
PF_R = 0x4

-- ---- Dyn: an entry of the dynamic section (chapter 5, Dynamic Section)

-- size of an entry
abbrev pub DYN_SIZE : ℕ
DYN_SIZE = 16

-- offset of d_tag
abbrev pub D_TAG_AT : ℕ
D_TAG_AT = 0

-- offset of d_un
abbrev pub D_UN_AT : ℕ
D_UN_AT = 8

-- the end of the entries
abbrev pub DT_NULL : ℤ
DT_NULL = pos 0

-- the name of a library that is needed
abbrev pub DT_NEEDED : ℤ
DT_NEEDED = pos 1

-- the address of the symbol hash table
abbrev pub DT_HASH : ℤ
DT_HASH = pos 4

-- the address of the string table
abbrev pub DT_STRTAB : ℤ
DT_STRTAB = pos 5

-- the address of the symbol table
abbrev pub DT_SYMTAB : ℤ
DT_SYMTAB = pos 6

-- the string table's size in bytes
abbrev pub DT_STRSZ : ℤ
DT_STRSZ = pos 10

-- the size of one symbol in bytes
abbrev pub DT_SYMENT : ℤ
DT_SYMENT = pos 11

-- the name of this shared object
abbrev pub DT_SONAME : ℤ
DT_SONAME = pos 14

-- a list of folders to search for libraries, before others
abbrev pub DT_RPATH : ℤ
DT_RPATH = pos 15

-- a list of folders to search for libraries
abbrev pub DT_RUNPATH : ℤ
DT_RUNPATH = pos 29

-- ---- Note: a note (chapter 5, Note Section)

-- size of what is before a note's name: three words
abbrev pub NHDR_SIZE : ℕ
NHDR_SIZE = 12

-- offset of namesz, the name's size
abbrev pub N_NAMESZ_AT : ℕ
N_NAMESZ_AT = 0

-- offset of descsz, the descriptor's size
abbrev pub N_DESCSZ_AT : ℕ
N_DESCSZ_AT = 4

-- offset of type
abbrev pub N_TYPE_AT : ℕ
N_TYPE_AT = 8

-- what a note's name and its descriptor are padded to a multiple of, in bytes
abbrev pub NOTE_ALIGN : ℕ
NOTE_ALIGN = 4
