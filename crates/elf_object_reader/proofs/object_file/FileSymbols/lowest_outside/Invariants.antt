use Rattle.std.proofs.Common.{ℕ, ◌<◌, get_or}
use Rattle.elf_object_reader.specs.FileRules.{IsSymbolOutside, sections_of_file}
use Rattle.elf_table_symbols.specs.SymbolView.{no_symbol_entry}
use Rattle.elf_object_reader.proofs.object_file.FileSymbols.lowest_outside.Given as goal

abbrev pub invariant-loop-j : goal.invariant-loop-j
invariant-loop-j l =
    let file = l.self.file.now in
    (k : ℕ) → k < l.j → IsSymbolOutside file.left (sections_of_file file) (get_or l.self.entries k no_symbol_entry).place → ⊥
