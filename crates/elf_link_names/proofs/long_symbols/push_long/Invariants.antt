use Rattle.std.specs.List.{All}
use Rattle.elf_link_names.specs.LongSymbols.{IsSiteOfEntry}
use Rattle.elf_link_names.proofs.long_symbols.push_long.Given as goal

abbrev pub invariant-loop-index : goal.invariant-loop-index
invariant-loop-index l = All (IsSiteOfEntry l.inputs) l.sites.items
