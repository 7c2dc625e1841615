-- What the executable of a link is, as a file: an image whose loadable segments give each address the byte that memory has there.
-- (gABI chapter 4, ELF Header; chapter 5, Program Header.)
use Rattle.std.specs.Prelude.{ℕ, ◌+◌, ◌^◌, ◌%◌, ◌<◌, ◌==◌, if◌then◌else◌, List, length, map, ◌≡◌, ◌*◌, [], ◌∷◌, slice_index, ◌↔◌, ◌≤◌}
use Rattle.std.specs.Prelude.{MatchOption, Option, None}
use Rattle.std.specs.List.{flat_map}
use Rattle.elf_image_type.specs.WrittenFile.{identification}
use Rattle.elf_link_relocate.specs.declared.load.Load.{Load}
use Rattle.elf_extent.specs.Place.{Least}
use Rattle.elf_exec.specs.Pages.{LoadsPages}
use Rattle.elf_field.specs.Abi.{EHDR_SIZE, ET_EXEC, EV_CURRENT, PHDR_SIZE, PT_LOAD, PN_XNUM}
use Rattle.elf_field.specs.Headers.{ehdr_bytes, phdr_bytes}
use Rattle.elf_field.specs.declared.ehdr.Ehdr.{Ehdr}
use Rattle.elf_field.specs.declared.phdr.Phdr.{Phdr}
use Rattle.elf_image_outline.specs.Image.{ImageValue, IsImage, Stands}
use Rattle.elf_image_rules.specs.Rules.{MAX_LEN, IsFault}
use Rattle.elf_image_type.specs.ImageView.{Loads, LoadsFirst}
use Rattle.elf_image_type.specs.WrittenFile.{spread}
use Rattle.elf_link_field.specs.declared.rule.RelocRule.{RelocRule}
use Rattle.elf_link_files.specs.Rows.{AreEach, FirstAt}
use Rattle.elf_link_files.specs.declared.fault.Options.{Options}
use Rattle.elf_link_map.specs.LinkMap.{IsLinkMap, LinkMapValue}
use Rattle.elf_link_map.specs.Standing.{AreObjects, ObjectsFit}
use Rattle.elf_link_relocate.specs.Fields.{applied_entry_rules}
use Rattle.elf_link_relocate.specs.Loads.{file_size, load_in, loads}
use Rattle.elf_link_relocate.specs.Linked.{identity_of, IsMemory, IsSoundMap}
use Rattle.elf_link_relocate.specs.declared.linked.Identity.{Identity}
use Rattle.elf_object_type.specs.Object.{ObjectValue}

-- The executable of a link: the one list of bytes that it is written as.
-- (gABI chapter 4, ELF Header; chapter 5, Program Header; where they leave a place open, the layout is this project's profile.)

-- ---- the parts after the header and the program header table: the bytes of each segment

-- the bytes as (size, alignment): those of a segment with bits begin at a multiple of the page
abbrev pub load_part : ℕ → Load → ℕ × ℕ
load_part page load = (file_size load, if load.no_bits then 1 else page)

unfoldable pub load_parts : LinkMapValue → List (ℕ × ℕ)
load_parts m = map (load_part m.page) (loads m)

-- where they may begin: at the end of the program header table
abbrev pub bytes_from : LinkMapValue → ℕ
bytes_from m = EHDR_SIZE + PHDR_SIZE * length (loads m)

-- a segment's bytes are those of memory from its address on
pub record AreLoadBytes (fs : List ObjectValue) (m : LinkMapValue) (rules : List RelocRule) (load : Load) (bytes : List ℕ) : Type 0 where
  pub long : length bytes ≡ file_size load
  pub memory : (k : ℕ) → k < length bytes → IsMemory fs m rules (load.address + k) (slice_index bytes k)

-- ---- the records

-- of segments whose bytes are at these places
abbrev pub program_header : ℕ → Load → ℕ → Phdr
program_header page load place = record {
  p_type = PT_LOAD;
  p_flags = load.flags;
  p_offset = if load.no_bits then 0 else place;
  p_vaddr = load.address;
  p_paddr = load.address;
  p_filesz = file_size load;
  p_memsz = load.size;
  p_align = page;
}

abbrev pub program_headers : ℕ → List Load → List ℕ → List Phdr
program_headers page [] places = []
program_headers page (load ∷ ls) [] = []
program_headers page (load ∷ ls) (place ∷ places) = program_header page load place ∷ program_headers page ls places

-- the header of a file with this entry and so many segments, whose program header table is after it; a table without entries is none; there
-- is no section header table
abbrev pub exec_header : Identity → ℕ → ℕ → Ehdr
exec_header i entry count = record {
  e_ident = identification i.order i.osabi i.abi;
  e_type = ET_EXEC;
  e_machine = i.machine;
  e_version = EV_CURRENT;
  e_entry = entry;
  e_phoff = if count == 0 then 0 else EHDR_SIZE;
  e_shoff = 0;
  e_flags = i.flags;
  e_ehsize = EHDR_SIZE;
  e_phentsize = if count == 0 then 0 else PHDR_SIZE;
  e_phnum = count;
  e_shentsize = 0;
  e_shnum = 0;
  e_shstrndx = 0;
}

-- ---- the file

unfoldable pub header_bytes : List ObjectValue → LinkMapValue → List ℕ
header_bytes fs m = let i = identity_of fs in ehdr_bytes i.order (exec_header i m.entry (length (loads m)))

unfoldable pub table_bytes : List ObjectValue → LinkMapValue → List ℕ → List ℕ
table_bytes fs m places = flat_map (phdr_bytes (identity_of fs).order) (program_headers m.page (loads m) places)

-- the header, the program header table, and the bytes of the segments at these places, with zeros between
unfoldable pub exec_bytes : List ObjectValue → LinkMapValue → List ℕ → List (List ℕ) → List ℕ
exec_bytes fs m places contents =
    spread 0 (0 ∷ EHDR_SIZE ∷ places) (header_bytes fs m ∷ table_bytes fs m places ∷ contents)

-- b is the executable of these objects, their map and relocation rules: the bytes of each segment are memory's, and its parts are as
-- low as they can be
pub record ExecLaid (fs : List ObjectValue) (m : LinkMapValue) (rules : List RelocRule) (b : List ℕ) : Type 0 where
  pub places : List ℕ
  pub contents : List (List ℕ)
  pub least : Least (load_parts m) (bytes_from m) places
  pub memory : AreEach [] (λ j. AreLoadBytes fs m rules (load_in m j)) (length (loads m)) contents
  pub bytes : b ≡ exec_bytes fs m places contents

-- ---- the link

-- m is the map of these objects, and none of rules 1 to 16 of the link is broken for them and these relocation rules; the objects keep
-- their own rules, and their numbers and the page fit the types that the code has for them
pub record IsSoundLink (fs : List ObjectValue) (m : LinkMapValue) (rules : List RelocRule) : Type 0 where
  pub objects : AreObjects fs
  pub widths : ObjectsFit fs
  pub map : IsSoundMap fs m
  pub page : m.page < 2 ^ 64
  pub relocated : FirstAt (applied_entry_rules fs m rules) None

-- ---- its executable

-- b is the executable of a link, and neither has it more segments than e_phnum can report, nor is it longer than the longest file
pub record ExecFits (fs : List ObjectValue) (m : LinkMapValue) (rules : List RelocRule) (b : List ℕ) : Type 0 where
  pub laid : ExecLaid fs m rules b
  pub few : length (loads m) < PN_XNUM
  pub short : length b ≤ MAX_LEN

-- b is an image: it enters at the map's entry, and its loadable segments give an address a byte exactly where memory has that byte there,
-- so that what the first of them with an address gives it is memory's byte; a system with pages of a size that divides the page of the link
-- can load it page by page; and no other list of bytes is the executable of this link
pub record LoadsLink (fs : List ObjectValue) (m : LinkMapValue) (rules : List RelocRule) (b : List ℕ) : Type 0 where
  pub accepted : IsFault b None
  pub image : (v : ImageValue) × IsImage v b
  pub entry : (v : ImageValue) → Stands v b → v.header.e_entry ≡ m.entry
  pub memory : (v : ImageValue) → Stands v b → (x w : ℕ) → Loads b v.segments x w ↔ IsMemory fs m rules x w
  pub load : (v : ImageValue) → Stands v b → (x : ℕ) (found : Option ℕ) → LoadsFirst b v.segments x found →
      MatchOption found ((w : ℕ) → ¬ IsMemory fs m rules x w) (IsMemory fs m rules x)
  pub pages : (size : ℕ) → 0 < size → m.page % size ≡ 0 → LoadsPages size fs m rules b
  pub one : (c : List ℕ) → ExecLaid fs m rules c → c ≡ b

-- b is the executable of the link of these objects by these options
abbrev pub LoadsLinkOf : Options → List ObjectValue → List RelocRule → List ℕ → Type 0
LoadsLinkOf opt fs rules b = (m : LinkMapValue) × IsLinkMap opt fs m × LoadsLink fs m rules b

-- what is found at an address is the byte that the memory of this link has there, and nothing where it has none
abbrev pub IsMemoryOf : Options → List ObjectValue → List RelocRule → ℕ → Option ℕ → Type 0
IsMemoryOf opt fs rules x found =
    (m : LinkMapValue) × IsLinkMap opt fs m × MatchOption found ((w : ℕ) → ¬ IsMemory fs m rules x w) (IsMemory fs m rules x)
