-- What a system that loads an executable page by page makes of it: pages of the file become pages of memory, with the permissions of the
-- segment that they are for. (gABI chapter 5, Program Header: Segment Permissions; Program Loading: p_offset and p_vaddr of a segment are
-- congruent, modulo the page size.)
use Rattle.std.specs.Prelude.{ℕ, ◌+◌, ◌-◌, ◌*◌, ◌/◌, ◌%◌, ◌≡◌, ◌<◌, ◌≤◌, ◌⊎◌, ◌↔◌, List, length, nat_lt, if◌then◌else◌, slice_index}
use Rattle.elf_field.specs.Abi.{PF_R, PF_W}
use Rattle.elf_field.specs.declared.phdr.Phdr.{Phdr}
use Rattle.elf_image_outline.specs.Image.{ImageValue, Stands}
use Rattle.elf_image_rules.specs.Tables.{program_header_of}
use Rattle.elf_image_type.specs.ImageView.{HasAddress}
use Rattle.elf_link_field.specs.declared.rule.RelocRule.{RelocRule}
use Rattle.elf_link_files.specs.Files.{section_in}
use Rattle.elf_link_map.specs.LinkMap.{LinkMapValue}
use Rattle.elf_link_map.specs.Standing.{BeginsAt, size_in}
use Rattle.elf_link_relocate.specs.Linked.{IsMemory}
use Rattle.elf_link_relocate.specs.Loads.{segment_flags}
use Rattle.elf_object_type.specs.Object.{ObjectValue}

-- ---- pages

-- some address of a segment is on this page
abbrev pub HasPage : ℕ → Phdr → ℕ → Type 0
HasPage size segment page = (x : ℕ) × HasAddress segment x × (x / size ≡ page)

-- no page has addresses of two segments: so it has the permissions of one
abbrev pub HaveOwnPages : ℕ → List Phdr → Type 0
HaveOwnPages size segments = (i j page : ℕ) → i < length segments → j < length segments →
    HasPage size (program_header_of segments i) page → HasPage size (program_header_of segments j) page → i ≡ j

-- ---- bytes

-- the offset of the byte of the file that is at an address of a segment, if the page of the file that has p_offset becomes the page of
-- memory that has p_vaddr, and each later one of the file the next one of memory
abbrev pub paged_offset : ℕ → Phdr → ℕ → ℕ
paged_offset size segment x = (segment.p_offset / size + (x / size - segment.p_vaddr / size)) * size + x % size

-- the byte that a segment gives its address x then: that of the file b, and 0 after the p_filesz bytes there
abbrev pub paged : ℕ → List ℕ → Phdr → ℕ → ℕ
paged size b segment x = if nat_lt (x - segment.p_vaddr) segment.p_filesz then slice_index b (paged_offset size segment x) else 0

-- some segment of the file b has the address x, and its pages give it the byte v
abbrev pub LoadsByPage : ℕ → List ℕ → List Phdr → ℕ → ℕ → Type 0
LoadsByPage size b segments x v =
    (j : ℕ) × (j < length segments) × HasAddress (program_header_of segments j) x × (v ≡ paged size b (program_header_of segments j) x)

-- ---- permissions

-- an address is one of a section's
abbrev pub IsInSection : List ObjectValue → LinkMapValue → ℕ → ℕ → ℕ → Type 0
IsInSection fs m f s x = (a : ℕ) × BeginsAt m f s a × (a ≤ x) × (x < a + size_in fs f s)

-- a segment has the permissions that the flags of a section ask for
abbrev pub HasPermissionsOf : List ObjectValue → Phdr → ℕ → ℕ → Type 0
HasPermissionsOf fs segment f s = segment.p_flags ≡ segment_flags (section_in fs f s).flags

-- a segment has the permissions that each section in it asks for
abbrev pub IsAsAsked : List ObjectValue → LinkMapValue → Phdr → Type 0
IsAsAsked fs m segment = (f s x : ℕ) → IsInSection fs m f s x → HasAddress segment x → HasPermissionsOf fs segment f s

-- a section that has an address asks for the permissions of a segment, or it is the one of the commons, which is read and written
abbrev pub IsAskedFor : List ObjectValue → LinkMapValue → Phdr → Type 0
IsAskedFor fs m segment = ((f s : ℕ) × BeginsAt m f s segment.p_vaddr × HasPermissionsOf fs segment f s) ⊎ (segment.p_flags ≡ PF_R + PF_W)

-- ---- all of it

-- pages of this size of the executable b of a link give each address the byte of the link's memory, and none where that has none; and each
-- has the permissions that the sections on it ask for, so that what is on a page may be both written and run only if a section asks for it
pub record LoadsPages (size : ℕ) (fs : List ObjectValue) (m : LinkMapValue) (rules : List RelocRule) (b : List ℕ) : Type 0 where
  pub own : (v : ImageValue) → Stands v b → HaveOwnPages size v.segments
  pub memory : (v : ImageValue) → Stands v b → (x w : ℕ) → LoadsByPage size b v.segments x w ↔ IsMemory fs m rules x w
  pub asked : (v : ImageValue) → Stands v b → (j : ℕ) → j < length v.segments →
      IsAsAsked fs m (program_header_of v.segments j) × IsAskedFor fs m (program_header_of v.segments j)
