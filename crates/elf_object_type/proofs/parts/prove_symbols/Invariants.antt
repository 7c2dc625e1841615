use Rattle.std.proofs.Common.{map, take}
use Rattle.std.specs.List.{AllByRecursion}
use Rattle.elf_object_type.specs.ObjectView.{symbol_value}
use Rattle.elf_object_type.specs.Object.{SymbolFits}
use Rattle.elf_object_type.proofs.parts.prove_symbols.Given as goal

abbrev pub invariant-loop-symbol : goal.invariant-loop-symbol
invariant-loop-symbol l = AllByRecursion SymbolFits (map symbol_value (take l.symbol-index l.symbols))
