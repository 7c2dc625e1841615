-- Finding a section by its name. (gABI chapter 4, Sections: sh_name; String Table.)
use Rattle.std.specs.Prelude.{◌≡◌, ◌<◌, ◌+◌, ◌*◌, ◌==◌, ◌||◌, if◌then◌else◌, ℕ, List, []}
use Rattle.elf_c.specs.Files.{HasName, file_order, name_of_section}
use Rattle.elf_c.specs.declared.shapes.File.{File}
use Rattle.elf_field.specs.Abi.{SHDR_SIZE, SHT_NULL}
use Rattle.elf_field.specs.Headers.{shdr_at}
use Rattle.elf_field.specs.declared.shdr.Shdr.{Shdr}
use Rattle.elf_image_rules.specs.Tables.{bytes_in, content_extent, file_counts}
use Rattle.elf_field.specs.Strings.{string}

-- a file that breaks none of rules 1 to 32 has a section i of this name
abbrev pub HasSectionNamed : List ℕ → List ℕ → ℕ → Type 0
HasSectionNamed b name i = (i < (file_counts b).sections) × (name_of_section b i ≡ name)

-- section header i by the numbers of a file, whatever they are
abbrev pub section_read : File → List ℕ → ℕ → Shdr
section_read f b i = shdr_at (file_order f) b (f.e_shoff + SHDR_SIZE * i)

-- the name of section i by the numbers of a file, whatever they are
abbrev pub name_read : File → List ℕ → ℕ → List ℕ
name_read f b i =
    let s = section_read f b i in
    if (s.sh_type == SHT_NULL) || (f.name_table == 0) then [] else string
    (bytes_in b (content_extent (section_read f b f.name_table))) s.sh_name

-- by these numbers section i is there, and has this name
abbrev pub IsNamed : File → List ℕ → List ℕ → ℕ → Type 0
IsNamed f b name i = HasName f b i × (name_read f b i ≡ name)
