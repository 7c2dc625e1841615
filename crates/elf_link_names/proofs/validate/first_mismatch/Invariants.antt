use Rattle.std.proofs.Common.{ℕ, ◌<◌}
use Rattle.elf_link_files.specs.FileRules.{IsMismatch}
use Rattle.elf_link_files.specs.Files.{object_at}
use Rattle.elf_link_names.proofs.validate.first_mismatch.Given as goal

abbrev pub invariant-loop-file : goal.invariant-loop-file
invariant-loop-file l = (e : ℕ) → e < l.file → IsMismatch (object_at l.objects 0) (object_at l.objects e) → ⊥
