-- What an offset of a file belongs to, by the numbers of its header, whether or not the file breaks a rule.
use Rattle.std.specs.Prelude.{◌≡◌, ◌≢◌, ◌<◌, ◌≤◌, ◌+◌, ◌*◌, ◌-◌, ◌⊎◌, ℕ, List}
use Rattle.elf_c.specs.Files.{HasSectionHeader, file_order}
use Rattle.elf_c.specs.declared.shapes.File.{File}
use Rattle.elf_extent.specs.declared.extent.Extent.{Extent}
use Rattle.elf_field.specs.Abi.{EHDR_SIZE, PHDR_SIZE, SHDR_SIZE}
use Rattle.elf_field.specs.Headers.{shdr_at}
use Rattle.elf_image_rules.specs.Tables.{content_extent}

-- a table of so many entries of this size is there, and has the offset
abbrev pub IsInTable : ℕ → ℕ → ℕ → ℕ → Type 0
IsInTable table size count x = (table ≢ 0) × (table ≤ x) × (x < table + size * count)

-- an extent has the offset
abbrev pub IsInExtent : Extent → ℕ → Type 0
IsInExtent e x = (e.start ≤ x) × (x < e.start + e.len)

-- there is a section header table, header i lies in the file, and the content that it names has the offset
abbrev pub IsInContentAt : File → List ℕ → ℕ → ℕ → Type 0
IsInContentAt f b i x =
    (f.e_shoff ≢ 0) × HasSectionHeader f b i × IsInExtent (content_extent (shdr_at (file_order f) b (f.e_shoff + SHDR_SIZE * i))) x

-- an owner has the offset: 0 is the header, 1 the section header table, 2 the program header table, and 3 + i the content of section i
abbrev pub OwnsOffset : File → List ℕ → ℕ → ℕ → Type 0
OwnsOffset f b x owner =
    ((owner ≡ 0) × (x < EHDR_SIZE))
    ⊎ (((owner ≡ 1) × IsInTable f.e_shoff SHDR_SIZE f.sections x)
    ⊎ (((owner ≡ 2) × IsInTable f.e_phoff PHDR_SIZE f.segments x)
    ⊎ ((3 ≤ owner) × IsInContentAt f b (owner - 3) x)))

-- it is an owner from this one on, and has the offset
abbrev pub OwnsOffsetFrom : File → List ℕ → ℕ → ℕ → ℕ → Type 0
OwnsOffsetFrom f b x first owner = (first ≤ owner) × OwnsOffset f b x owner
