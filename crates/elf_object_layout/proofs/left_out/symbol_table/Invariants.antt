use Rattle.std.proofs.Common.{◌≡◌, ℕ, ◌<◌}
use Rattle.elf_field.specs.Abi.{SHT_SYMTAB}
use Rattle.elf_table_symbols.specs.Sections.{section, sections_of}
use Rattle.elf_object_layout.proofs.left_out.symbol_table.Given as goal

abbrev pub invariant-loop-i : goal.invariant-loop-i
invariant-loop-i l = (k : ℕ) → k < l.i → (section (sections_of l.image) k).sh_type ≡ SHT_SYMTAB → ⊥
