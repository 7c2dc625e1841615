-- The string read at the symbol's `st_name` is its name, since it is read in the table that the symbol table links to. So the
-- symbol that is pushed is the one denoted by the next entry.
use Rattle.std.proofs.Common.{◌≡◌, ℕ, ◌+◌, ◌<◌, ◌-◌, List, [], ◌∷◌, ◌++◌, drop, get_or, length, map, sym, ap, ap₂, ◌∙◌, arith}
use Rattle.std.proofs.lemmas.List.{get_or-drop, length-drop, map-append, map_more}
use Rattle.elf_field.specs.declared.sym.Sym.{Sym}
use Rattle.elf_field.specs.Strings.{string}
use Rattle.elf_object_type.specs.Object.{SymbolValue}
use Rattle.elf_object_type.specs.ObjectView.{symbol_value}
use Rattle.elf_object_reader.specs.Denotes.{symbol_denoted}
use Rattle.elf_object_reader.specs.FileRules.{sections_of_file}
use Rattle.elf_table_symbols.specs.Symbols.{symbol_parts, SymbolEntryValue, symbols_of}
use Rattle.elf_table_symbols.specs.SymbolView.{no_symbol_entry}
use Rattle.elf_object_reader.proofs.DenotedSymbols.{symbol_name}
use Rattle.elf_object_reader.proofs.reading.ObjectReader.read_table.Goals as goal

pub read_symbol-requires-clause-name : goal.read_symbol-requires-clause-name
read_symbol-requires-clause-name c =
    let table = c.args.symbols.now in
    let f = sections_of_file table.file.now in
    let j = c.loop-j.j in
    let end = c.loop-j-test.true in
    let below : j + 1 < length table.entries = omega arith in
    let lt : j + 1 < length (symbols_of f table.index) = rw table.own_entries at below in
    let names = (symbol_parts f table.index).names in
    c.string-name.ensures
    ∙ ap₂ (λ (bytes : List ℕ) (entry : Sym). string bytes entry.st_name) (c.in_ok-blocks.ensures ∙ c.requires) c.record.ensures
    ∙ sym (symbol_name f table.index (j + 1) lt)
    ∙ ap (λ (es : List SymbolEntryValue). (get_or es (j + 1) no_symbol_entry).name) (sym table.own_entries)

pub loop-j-preserved : goal.loop-j-preserved
loop-j-preserved c =
    let file = c.args.self.now.file in
    let entries = c.args.symbols.now.entries in
    let denoted = symbol_denoted file.left (sections_of_file file) in
    let j = c.loop-j.j in
    let end = c.loop-j-test.true in
    let many : length (drop 1 entries) ≡ length entries - 1 = length-drop 1 entries in
    let next : 1 + j ≡ j + 1 = omega arith in
    let within : j < length (drop 1 entries) = omega arith in
    let one : symbol_value c.read_symbol.result ≡ denoted (get_or (drop 1 entries) j no_symbol_entry) =
    c.read_symbol.ensures
    ∙ ap denoted (ap (λ (k : ℕ). get_or entries k no_symbol_entry) (sym next) ∙ sym (get_or-drop 1 entries j no_symbol_entry)) in
    ap (map symbol_value) c.in_ok-push.ensures.items
    ∙ map-append symbol_value c.loop-j.read.items (c.read_symbol.result ∷ [])
    ∙ ap₂ (λ (ss : List SymbolValue) (s : SymbolValue). ss ++ (s ∷ [])) c.loop-j.invariant one
    ∙ sym (map_more denoted (drop 1 entries) j no_symbol_entry within)
