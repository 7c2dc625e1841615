use Rattle.std.proofs.Common.{sym}
use Rattle.elf_table_symbols.proofs.SymbolLists.{length_symbols}
use Rattle.elf_table_symbols.proofs.symbols.Symbols.len.Goals as goal

pub returns : goal.returns
returns c = rw (← c.self.view_is) (sym (length_symbols _ _ _ _))
