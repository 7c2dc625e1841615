use Rattle.std.proofs.Common.{◌≡◌, ℕ, ◌<◌, true, false}
use Rattle.elf_field.specs.Abi.{SHT_SYMTAB}
use Rattle.elf_object_reader.specs.FileRules.{IsSecondSymbolTable}
use Rattle.elf_table_symbols.specs.Sections.{section, sections_of}
use Rattle.elf_object_reader.proofs.file_rules.lowest_second_symbol_table.Given as goal

-- no symbol table so far is a second one, and it is known whether there is a first
abbrev pub invariant-loop-i : goal.invariant-loop-i
invariant-loop-i l =
    let f = sections_of l.image in
    record {
      never : (k : ℕ) → k < l.i → IsSecondSymbolTable f k → ⊥;
      some : l.found ≡ true → (k : ℕ) × (k < l.i) × ((section f k).sh_type ≡ SHT_SYMTAB);
      none : l.found ≡ false → (k : ℕ) → k < l.i → (section f k).sh_type ≡ SHT_SYMTAB → ⊥;
    }
