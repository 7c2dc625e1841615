use Rattle.std.proofs.Common.{ℕ, ◌<◌}
use Rattle.elf_object_reader.specs.FileRules.{IsForeignType}
use Rattle.elf_table_symbols.specs.Sections.{section, sections_of}
use Rattle.elf_object_reader.proofs.file_rules.lowest_foreign_section.Given as goal

abbrev pub invariant-loop-i : goal.invariant-loop-i
invariant-loop-i l = (k : ℕ) → k < l.i → IsForeignType (section (sections_of l.image) k).sh_type → ⊥
