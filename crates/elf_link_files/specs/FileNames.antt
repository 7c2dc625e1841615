-- Names of the files of a link, with numbers for where they ended in the string tables of their files.
-- (gABI chapter 4, String Table.)
use Rattle.std.specs.Prelude.{◌≡◌, ◌<◌, ◌+◌, ◌*◌, ℕ, List, length, get_or, if◌then◌else◌, ◌&&◌, nat_lt}
use Rattle.elf_link_files.specs.declared.file_names.FileNames.TheInside.{Inside}
use Rattle.elf_object_strings.specs.StringTable.{AreTails, texts}

-- the number of an end in a file, of so many files; 0 for an end that is not known, or if the number is too large
abbrev pub numbered_end : ℕ → ℕ → ℕ → ℕ
numbered_end file count end =
    if nat_lt 0 end && (nat_lt file count && nat_lt (end * count + file) 4294967296) then end * count + file else 0

-- a number is that of an end in one of the first files
pub record IsOfFiles (files count number : ℕ) : Type 0 where
  pub file : ℕ
  pub end : ℕ
  pub earlier : file < files
  pub within : file < count
  pub is : number ≡ end * count + file

abbrev pub AreOfFiles : ℕ → ℕ → List ℕ → Type 0
AreOfFiles files count numbers = (n : ℕ) → 0 < get_or numbers n 0 → IsOfFiles files count (get_or numbers n 0)

-- The names, as the functions of `FileNames` look at them.

abbrev pub file_names_value : Inside → List (List ℕ)
file_names_value l = texts l.names.items

pub record AreFileNames (l : Inside) : Type 0 where
  pub all : length l.ends.items ≡ length l.names.items
  pub tails : AreTails (texts l.names.items) l.ends.items
  pub files : AreOfFiles l.files l.count l.ends.items
