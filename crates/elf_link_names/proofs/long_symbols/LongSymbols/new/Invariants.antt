use Rattle.std.specs.List.{All}
use Rattle.elf_link_names.specs.LongSymbols.{IsSiteOfEntry}
use Rattle.elf_link_names.proofs.long_symbols.LongSymbols.new.Given as goal

abbrev pub invariant-loop-file : goal.invariant-loop-file
invariant-loop-file l = All (IsSiteOfEntry l.inputs) l.sites.items
