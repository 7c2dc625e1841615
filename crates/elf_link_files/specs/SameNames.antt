-- The names of sections and of symbols of the files of a link. (gABI chapter 4: sh_name, st_name.)
use Rattle.std.specs.Prelude.{◌≡◌, ◌<◌, ◌≤◌, ℕ, List, length, map}
use Rattle.elf_link_files.specs.Files.{object_at, section_in, symbol_in}
use Rattle.elf_link_files.specs.Rows.{site_at}
use Rattle.elf_link_files.specs.declared.same_names.Named.TheVariants.{Section, Symbol}
use Rattle.elf_link_files.specs.declared.same_names.Named.{Named}
use Rattle.elf_link_files.specs.declared.site.Site.{Site}
use Rattle.elf_object_type.specs.Object.{ObjectValue}

-- how many of them an object has, and their names
abbrev pub named_count : ObjectValue → Named → ℕ
named_count o Section = length o.sections
named_count o Symbol = length o.symbols

abbrev pub names_of_object : ObjectValue → Named → List (List ℕ)
names_of_object o Section = map (λ s. s.name) o.sections
names_of_object o Symbol = map (λ s. s.name) o.symbols

-- a section, or a symbol, of the files
abbrev pub IsNamedIn : List ObjectValue → Named → Site → Type 0
IsNamedIn fs named p = (p.file < length fs) × (p.index < named_count (object_at fs p.file) named)

abbrev pub site_name : List ObjectValue → Named → Site → List ℕ
site_name fs Section p = (section_in fs p.file p.index).name
site_name fs Symbol p = (symbol_in fs p.file p.index).name

-- the names of these
abbrev pub site_names : List ObjectValue → Named → List Site → List (List ℕ)
site_names fs named ps = map (site_name fs named) ps

-- the sites from one on up to another are in the file of the first of them
abbrev pub AreInFile : List Site → ℕ → ℕ → Type 0
AreInFile ps start end = (k : ℕ) → start ≤ k → k < end → (site_at ps k).file ≡ (site_at ps start).file
