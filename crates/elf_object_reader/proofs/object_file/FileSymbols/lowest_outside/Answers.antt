use Rattle.std.proofs.Common.{◌<◌, length, rules}
use Rattle.elf_object_reader.specs.FileRules.{sections_of_file}
use Rattle.elf_object_reader.proofs.DenotedSymbols.{symbol_within}
use Rattle.elf_object_reader.proofs.object_file.FileSymbols.lowest_outside.Goals as goal

pub section_index_offset-requires : goal.section_index_offset-requires
section_index_offset-requires c =
    let table = c.args.self.now in
    let lt : c.loop-j.j < length table.entries = search rules in
    symbol_within (sections_of_file table.file.now) table.index c.loop-j.j (rw table.own_entries at lt)
