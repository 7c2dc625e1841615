use Rattle.std.proofs.Common.{ℕ, ◌<◌}
use Rattle.elf_object_reader.specs.FileRules.{BreaksReference, sections_of_file}
use Rattle.elf_object_reader.proofs.object_file.ObjectFile.lowest_reference.Given as goal

abbrev pub invariant-loop-i : goal.invariant-loop-i
invariant-loop-i l = (k : ℕ) → k < l.i → BreaksReference l.rule l.self.left (sections_of_file l.self) k → ⊥
