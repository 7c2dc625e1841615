use Rattle.std.proofs.Common.{ℕ, ◌<◌, length}
use Rattle.elf_link_files.specs.Files.{object_at}
use Rattle.elf_link_names.specs.Binds.{BreaksName}
use Rattle.elf_link_names.proofs.name_table.NameTable.first_name.Given as goal

abbrev pub invariant-loop-file : goal.invariant-loop-file
invariant-loop-file l = (e k : ℕ) → e < l.file → k < length (object_at l.self e).symbols → BreaksName l.self l.rule e k → ⊥
