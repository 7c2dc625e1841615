use Rattle.std.proofs.Common.{◌≡◌, ◌+◌, ◌*◌, List, get_or, ap, sym, ◌∙◌}
use Rattle.elf_field.specs.declared.sym.Sym.{Sym}
use Rattle.elf_object_reader.specs.Denotes.{place_denoted, symbol_denoted}
use Rattle.elf_object_reader.specs.FileRules.{sections_of_file}
use Rattle.elf_table_symbols.specs.Symbols.{SymbolEntryValue}
use Rattle.elf_table_symbols.specs.SymbolView.{no_symbol_entry}
use Rattle.elf_object_reader.proofs.DenotedSymbols.{same_symbol, symbol_fields, symbol_info}
use Rattle.elf_object_reader.proofs.reading.ObjectReader.read_symbol.Goals as goal

pub returns : goal.returns
returns c =
    let f = sections_of_file c.args.self.now.file in
    let left = c.args.self.now.file.left in
    let table = c.args.symbols.now in
    let own = sections_of_file table.file.now in
    let j = c.args.j in
    let s = get_or table.entries j no_symbol_entry in
    let lt = rw table.own_entries at c.requires.there in
    let same : get_or table.entries j no_symbol_entry ≡ _ =
    ap (λ (ss : List SymbolEntryValue). get_or ss j no_symbol_entry) table.own_entries in
    let fields = symbol_fields own table.index j lt in
    same_symbol _ (symbol_denoted left f s)
    c.requires.name
    (ap (λ (r : Sym). r.st_info) c.record-entry.ensures ∙ sym (symbol_info own table.index j lt) ∙
    ap (λ (v : SymbolEntryValue). 16 * v.binding + v.symbol_type) (sym same))
    (ap (λ (r : Sym). r.st_other) c.record-entry.ensures ∙ sym fields.0 ∙ ap (λ (v : SymbolEntryValue). v.other) (sym same))
    (c.read_place.ensures ∙ ap (λ p. place_denoted left f p) c.place.ensures)
    (ap (λ (r : Sym). r.st_value) c.record-entry.ensures ∙ sym fields.1 ∙ ap (λ (v : SymbolEntryValue). v.value) (sym same))
    (ap (λ (r : Sym). r.st_size) c.record-entry.ensures ∙ sym fields.2 ∙ ap (λ (v : SymbolEntryValue). v.size) (sym same))
