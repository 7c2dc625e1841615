-- The file header, section headers and program headers: their fields. (gABI chapter 4, ELF Header and
-- Sections; chapter 5, Program Header.) A field of one byte is defined like the others, as a number of width 1, so all records have one
-- form. The identification is one field `e_ident` of sixteen bytes, as in the standard.
use Rattle.std.specs.Prelude.{◌≡◌, ◌+◌, ◌<◌, ◌^◌, ℕ, List, [], ◌∷◌, length, take, drop}
use Rattle.std.proofs.Common.{◌-◌}
use Rattle.elf_field.specs.Abi.{EI_NIDENT, E_EHSIZE_AT, E_ENTRY_AT, E_FLAGS_AT, E_MACHINE_AT, E_PHENTSIZE_AT, E_PHNUM_AT, E_PHOFF_AT}
use Rattle.elf_field.specs.Abi.{E_SHENTSIZE_AT, E_SHNUM_AT, E_SHOFF_AT, E_SHSTRNDX_AT, E_TYPE_AT, E_VERSION_AT, SH_ADDRALIGN_AT}
use Rattle.elf_field.specs.Abi.{SH_ADDR_AT, SH_ENTSIZE_AT, SH_FLAGS_AT, SH_INFO_AT, SH_LINK_AT, SH_NAME_AT, SH_OFFSET_AT, SH_SIZE_AT}
use Rattle.elf_field.specs.Abi.{SH_TYPE_AT, P_ALIGN_AT, P_FILESZ_AT, P_FLAGS_AT, P_MEMSZ_AT, P_OFFSET_AT, P_PADDR_AT, P_TYPE_AT}
use Rattle.elf_field.specs.Abi.{P_VADDR_AT}
use Rattle.elf_field.specs.Bytes.{IsBytes, first_bytes, bytes_of, field}
use Rattle.elf_field.specs.Record.{AreAt, spelled}
use Rattle.elf_field.specs.Record.{Layout, StandsAt, record_at, record_bytes}
use Rattle.elf_field.specs.declared.ehdr.Ehdr.{Ehdr}
use Rattle.elf_field.specs.declared.number.Order.{Order}
use Rattle.elf_field.specs.declared.phdr.Phdr.{Phdr}
use Rattle.elf_field.specs.declared.shdr.Shdr.{Shdr}

-- The ELF header: a road map of the file, at its beginning. (gABI chapter 4, ELF Header.)

-- the identification, and the offset and the width in bytes of each number
abbrev pub ehdr_of : List ℕ → (ℕ → ℕ → ℕ) → Ehdr
ehdr_of ident number = record {
  e_ident = ident;
  e_type = number E_TYPE_AT 2;
  e_machine = number E_MACHINE_AT 2;
  e_version = number E_VERSION_AT 4;
  e_entry = number E_ENTRY_AT 8;
  e_phoff = number E_PHOFF_AT 8;
  e_shoff = number E_SHOFF_AT 8;
  e_flags = number E_FLAGS_AT 4;
  e_ehsize = number E_EHSIZE_AT 2;
  e_phentsize = number E_PHENTSIZE_AT 2;
  e_phnum = number E_PHNUM_AT 2;
  e_shentsize = number E_SHENTSIZE_AT 2;
  e_shnum = number E_SHNUM_AT 2;
  e_shstrndx = number E_SHSTRNDX_AT 2;
}

-- its numbers, which follow the identification
abbrev pub ehdr_values : Ehdr → List ℕ
ehdr_values v =
    v.e_type ∷ v.e_machine ∷ v.e_version ∷ v.e_entry ∷ v.e_phoff ∷ v.e_shoff ∷ v.e_flags ∷ v.e_ehsize ∷ v.e_phentsize ∷
    v.e_phnum ∷ v.e_shentsize ∷ v.e_shnum ∷ v.e_shstrndx ∷ []

-- their widths
abbrev pub ehdr_widths : List ℕ
ehdr_widths = ehdr_values (ehdr_of [] (λ k w. w))

-- the record at offset x of b, in an order
abbrev pub ehdr_at : Order → List ℕ → ℕ → Ehdr
ehdr_at o b x = ehdr_of (first_bytes EI_NIDENT (drop x b)) (λ k w. field o b (x + k) w)

-- its bytes, in an order: the identification, and then each number in its width
abbrev pub ehdr_bytes : Order → Ehdr → List ℕ
ehdr_bytes o v = spelled (bytes_of o) (first_bytes EI_NIDENT v.e_ident) ehdr_widths (ehdr_values v)

-- its fields are at their offsets from offset x of b
abbrev pub IsEhdrAt : Order → List ℕ → ℕ → Ehdr → Type 0
IsEhdrAt o b x v = (take EI_NIDENT (drop x b) ≡ v.e_ident) × AreAt o b x EI_NIDENT ehdr_widths (ehdr_values v)

-- each field fits its width
pub record IsEhdr (v : Ehdr) : Type 0 where
  pub e_ident : length v.e_ident ≡ EI_NIDENT
  pub e_ident_bytes : IsBytes v.e_ident
  pub e_type : v.e_type < 2 ^ 16
  pub e_machine : v.e_machine < 2 ^ 16
  pub e_version : v.e_version < 2 ^ 32
  pub e_entry : v.e_entry < 2 ^ 64
  pub e_phoff : v.e_phoff < 2 ^ 64
  pub e_shoff : v.e_shoff < 2 ^ 64
  pub e_flags : v.e_flags < 2 ^ 32
  pub e_ehsize : v.e_ehsize < 2 ^ 16
  pub e_phentsize : v.e_phentsize < 2 ^ 16
  pub e_phnum : v.e_phnum < 2 ^ 16
  pub e_shentsize : v.e_shentsize < 2 ^ 16
  pub e_shnum : v.e_shnum < 2 ^ 16
  pub e_shstrndx : v.e_shstrndx < 2 ^ 16

-- A section header: one entry of the section header table. (gABI chapter 4, Sections.)

-- the offset and the width in bytes of each field, and their order
abbrev pub shdr_layout : Layout Shdr
shdr_layout = record {
  of = λ number. record {
    sh_name = number SH_NAME_AT 4;
    sh_type = number SH_TYPE_AT 4;
    sh_flags = number SH_FLAGS_AT 8;
    sh_addr = number SH_ADDR_AT 8;
    sh_offset = number SH_OFFSET_AT 8;
    sh_size = number SH_SIZE_AT 8;
    sh_link = number SH_LINK_AT 4;
    sh_info = number SH_INFO_AT 4;
    sh_addralign = number SH_ADDRALIGN_AT 8;
    sh_entsize = number SH_ENTSIZE_AT 8;
  };
  values = λ v.
      v.sh_name ∷ v.sh_type ∷ v.sh_flags ∷ v.sh_addr ∷ v.sh_offset ∷ v.sh_size ∷ v.sh_link ∷ v.sh_info ∷ v.sh_addralign ∷ v.sh_entsize ∷ [];
}

abbrev pub shdr_at : Order → List ℕ → ℕ → Shdr
shdr_at = record_at shdr_layout

abbrev pub shdr_bytes : Order → Shdr → List ℕ
shdr_bytes = record_bytes shdr_layout

abbrev pub IsShdrAt : Order → List ℕ → ℕ → Shdr → Type 0
IsShdrAt = StandsAt shdr_layout

-- each field fits its width
pub record IsShdr (v : Shdr) : Type 0 where
  pub sh_name : v.sh_name < 2 ^ 32
  pub sh_type : v.sh_type < 2 ^ 32
  pub sh_flags : v.sh_flags < 2 ^ 64
  pub sh_addr : v.sh_addr < 2 ^ 64
  pub sh_offset : v.sh_offset < 2 ^ 64
  pub sh_size : v.sh_size < 2 ^ 64
  pub sh_link : v.sh_link < 2 ^ 32
  pub sh_info : v.sh_info < 2 ^ 32
  pub sh_addralign : v.sh_addralign < 2 ^ 64
  pub sh_entsize : v.sh_entsize < 2 ^ 64

-- A program header: one entry of the program header table, a segment. (gABI chapter 5, Program Header.)

-- the offset and the width in bytes of each field, and their order
abbrev pub phdr_layout : Layout Phdr
phdr_layout = record {
  of = λ number. record {
    p_type = number P_TYPE_AT 4;
    p_flags = number P_FLAGS_AT 4;
    p_offset = number P_OFFSET_AT 8;
    p_vaddr = number P_VADDR_AT 8;
    p_paddr = number P_PADDR_AT 8;
    p_filesz = number P_FILESZ_AT 8;
    p_memsz = number P_MEMSZ_AT 8;
    p_align = number P_ALIGN_AT 8;
  };
  values = λ v.
      v.p_type ∷ v.p_flags ∷ v.p_offset ∷ v.p_vaddr ∷ v.p_paddr ∷ v.p_filesz ∷ v.p_memsz ∷ v.p_align ∷ [];
}

abbrev pub phdr_at : Order → List ℕ → ℕ → Phdr
phdr_at = record_at phdr_layout

abbrev pub phdr_bytes : Order → Phdr → List ℕ
phdr_bytes = record_bytes phdr_layout

abbrev pub IsPhdrAt : Order → List ℕ → ℕ → Phdr → Type 0
IsPhdrAt = StandsAt phdr_layout

-- each field fits its width
pub record IsPhdr (v : Phdr) : Type 0 where
  pub p_type : v.p_type < 2 ^ 32
  pub p_flags : v.p_flags < 2 ^ 32
  pub p_offset : v.p_offset < 2 ^ 64
  pub p_vaddr : v.p_vaddr < 2 ^ 64
  pub p_paddr : v.p_paddr < 2 ^ 64
  pub p_filesz : v.p_filesz < 2 ^ 64
  pub p_memsz : v.p_memsz < 2 ^ 64
  pub p_align : v.p_align < 2 ^ 64
