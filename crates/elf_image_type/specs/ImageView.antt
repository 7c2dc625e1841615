-- An image: what contracts see of it, its strings, and the bytes that it has at addresses.
use Rattle.std.specs.Prelude.{map, ◌≡◌, ◌<◌, ◌≤◌, ℕ, ◌+◌, ◌-◌, nat_lt, if◌then◌else◌, List, length, Option, MatchOption, slice_index, ◌==◌}
use Rattle.std.specs.Prelude.{[]}
use Rattle.elf_field.specs.Abi.{SHT_NULL}
use Rattle.elf_field.specs.Strings.{string}
use Rattle.elf_field.specs.declared.phdr.Phdr.{Phdr}
use Rattle.elf_image_outline.specs.Image.{ImageValue, section_header_of, value_names}
use Rattle.elf_image_outline.specs.Outline.{image_of}
use Rattle.elf_image_rules.specs.Rules.{IsLoad}
use Rattle.elf_image_rules.specs.Tables.{program_header_of}
use Rattle.elf_image_type.specs.declared.image.Image.TheInside.{Inside}

-- What contracts see of an image.

abbrev pub view_of : Inside → ImageValue
view_of a = image_of a.outline (map (λ content. content.now) a.contents.items) a.file.now

-- Which bytes the loadable segments of a file give which addresses, of a file's bytes and its program headers.
-- (gABI chapter 5, Program Header: PT_LOAD, p_offset, p_vaddr, p_filesz, p_memsz.)

-- the segment is loadable, and x is one of its addresses: p_memsz of them from p_vaddr on
abbrev pub HasAddress : Phdr → ℕ → Type 0
HasAddress segment x = IsLoad segment × (segment.p_vaddr ≤ x) × (x < segment.p_vaddr + segment.p_memsz)

-- the byte that it gives its address x: that of the file b, from p_offset on, and 0 after the p_filesz bytes there
abbrev pub loaded : List ℕ → Phdr → ℕ → ℕ
loaded b segment x =
    if nat_lt (x - segment.p_vaddr) segment.p_filesz then slice_index b (segment.p_offset + (x - segment.p_vaddr)) else 0

-- some segment of the file b has the address x, and gives it the byte v
abbrev pub Loads : List ℕ → List Phdr → ℕ → ℕ → Type 0
Loads b segments x v =
    (j : ℕ) × (j < length segments) × HasAddress (program_header_of segments j) x × (v ≡ loaded b (program_header_of segments j) x)

-- none of the first n segments has the address x
abbrev pub HaveNoAddress : List Phdr → ℕ → ℕ → Type 0
HaveNoAddress segments n x = (j : ℕ) → j < n → HasAddress (program_header_of segments j) x → ⊥

-- segment j has the address x, and none before it does
abbrev pub IsFirstWithAddress : List Phdr → ℕ → ℕ → Type 0
IsFirstWithAddress segments x j =
    (j < length segments) × HasAddress (program_header_of segments j) x × HaveNoAddress segments j x

-- what is found at the address x: the byte that the first segment of the file b with it gives it, and nothing where none has it
abbrev pub LoadsFirst : List ℕ → List Phdr → ℕ → Option ℕ → Type 0
LoadsFirst b segments x found =
    MatchOption found (HaveNoAddress segments (length segments) x)
    (λ v. (j : ℕ) × IsFirstWithAddress segments x j × (v ≡ loaded b (program_header_of segments j) x))

-- The names of sections. (gABI chapter 4, String Table.)

-- the name of section i: a string of the section name string table, and empty for an entry of type NULL
abbrev pub section_name : ImageValue → ℕ → List ℕ
section_name v i =
    let s = section_header_of v.sections i in
    if s.sh_type == SHT_NULL then [] else string (value_names v.header v.sections v.contents) s.sh_name
