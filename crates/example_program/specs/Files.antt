-- Files that lie in memory, by their names.
use Rattle.std.specs.Prelude.{ℕ, Bool, true, false, List, None, Option, Some, if◌then◌else◌, nat_eq}
use Rattle.std.specs.Cmp.Lexicographic.{pointwise}
use Rattle.example_program.specs.declared.files.Files.{Files}
use Rattle.example_program.specs.declared.files.NamedFile.{NamedFile}

abbrev pub has_name : NamedFile → List ℕ → Bool
has_name file name = pointwise nat_eq file.name.now name

-- the bytes of the first file of this name
abbrev pub file_bytes : Files → List ℕ → Option (List ℕ)
file_bytes files name =
    if has_name files.first name then Some files.first.bytes.now
    else (if has_name files.second name then Some files.second.bytes.now
    else (if has_name files.third name then Some files.third.bytes.now else None))

-- whether there is one
abbrev pub is_file : Files → List ℕ → Bool
is_file files name =
    if has_name files.first name then true
    else (if has_name files.second name then true
    else (if has_name files.third name then true else false))
