use Rattle.std.proofs.Common.{sym}
use Rattle.elf_table_symbols.specs.Symbols.{symbol_entry_in}
use Rattle.elf_table_symbols.proofs.SymbolLists.{symbol_at, symbol_within}
use Rattle.elf_table_symbols.proofs.symbols.Symbols.entry.Goals as goal

pub entry-symbol-requires : goal.entry-symbol-requires
entry-symbol-requires c = symbol_within c.self.inside _ c.args.j c.self.view_is c.requires

pub place_at-requires : goal.place_at-requires
place_at-requires c =
    λ extended. c.self.invariant c.args.j (symbol_within c.self.inside _ c.args.j c.self.view_is c.requires)
    (rw c.entry-symbol.ensures at extended)

pub returns : goal.returns
unfolding symbol_entry_in
returns c =
    rw (c.string_at.ensures, c.binding.ensures, c.symbol_type.ensures, c.place_at.ensures, c.entry-symbol.ensures)
    (sym (symbol_at c.self.inside _ c.args.j c.self.view_is c.requires))
