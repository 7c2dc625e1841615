-- What contracts see of a symbol.
use Rattle.std.specs.Prelude.{[], List, drop}
use Rattle.elf_table_symbols.specs.Symbols.{SymbolEntryValue}
use Rattle.elf_table_symbols.specs.declared.symbols.Place.TheVariants.{Undefined}
use Rattle.elf_table_symbols.specs.declared.symbols.Symbol.{Symbol}
use Rattle.elf_table_symbols.specs.declared.symbols.SymbolIter.{SymbolIter}

abbrev pub symbol_entry_value : Symbol → SymbolEntryValue
symbol_entry_value s = record {
  name = s.name.now;
  binding = s.binding;
  symbol_type = s.symbol_type;
  other = s.other;
  place = s.place;
  value = s.value;
  size = s.size;
}

-- the symbol used for one that isn't there
abbrev pub no_symbol_entry : SymbolEntryValue
no_symbol_entry = record { name = []; binding = 0; symbol_type = 0; other = 0; place = Undefined; value = 0; size = 0 }

-- The symbols that an iterator over them has left.

abbrev pub symbols_left : SymbolIter → List SymbolEntryValue
symbols_left it = drop it.next it.symbols.now
