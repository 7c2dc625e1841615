use Rattle.std.proofs.Common.{map, sym, ◌∙◌}
use Rattle.elf_object_reader.specs.NameEnds.{is_long}
use Rattle.elf_object_type.specs.Object.{SymbolValue}
use Rattle.elf_object_type.specs.ObjectView.{symbol_value}
use Rattle.elf_table_symbols.specs.Sections.{sections_of}
use Rattle.elf_object_reader.proofs.NameTails.{list_any_of_map, useful_all, useful_none}
use Rattle.elf_object_reader.proofs.name_ends.useful_symbol_ends.Goals as goal

pub returns-then-has_long_symbol : goal.returns-then-has_long_symbol
returns-then-has_long_symbol c =
    let symbols = c.args.symbols.now in
    let some = list_any_of_map (λ (s : SymbolValue). is_long s.name) symbol_value symbols ∙ sym c.has_long_symbol.ensures ∙
    c.if-has_long_symbol.true in
    rw (useful_all _ _ some) c.symbol_ends.ensures

pub returns-else-has_long_symbol : goal.returns-else-has_long_symbol
returns-else-has_long_symbol c =
    let symbols = c.args.symbols.now in
    let none = list_any_of_map (λ (s : SymbolValue). is_long s.name) symbol_value symbols ∙ sym c.has_long_symbol.ensures ∙
    c.if-has_long_symbol.false in
    c.new.ensures.items ∙ sym (useful_none (map symbol_value symbols) (sections_of c.args.image.now) none)
