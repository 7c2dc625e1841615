use Rattle.std.proofs.Common.{◌≡◌, drop, map, take}
use Rattle.elf_object_reader.specs.Denotes.{symbol_denoted}
use Rattle.elf_object_reader.specs.FileRules.{sections_of_file}
use Rattle.elf_object_type.specs.ObjectView.{symbol_value}
use Rattle.elf_object_reader.proofs.reading.ObjectReader.read_table.Given as goal

abbrev pub invariant-loop-j : goal.invariant-loop-j
invariant-loop-j l =
    let file = l.self.file in
    map symbol_value l.read.items ≡ map (symbol_denoted file.left (sections_of_file file)) (take l.j (drop 1 l.symbols.entries))
