use Rattle.elf_link_files.specs.Files.{symbol_in}
use Rattle.elf_link_names.specs.Tables.{name_position}
use Rattle.elf_link_names.proofs.KnownNames.{index_read}
use Rattle.elf_link_names.proofs.ChosenCommons.{index_is}
use Rattle.elf_link_names.proofs.name_table.NameTable.index_of.Goals as goal

pub returns : goal.returns
returns c =
    let t = c.self.inside in
    let fs = t.inputs in
    let position = name_position t.names.positions in
    let name = (symbol_in fs c.args.id.file c.args.id.index).name in
    let asked = rw (← c.self.view_is) at c.requires in
    let at = index_read fs position t.indexes.items c.index.result.now c.args.id.file c.args.id.index c.index-2.result.now
    asked.symbol.0 asked.symbol.1 asked.entry c.index.ensures c.index-2.ensures c.self.invariant.indexes in
    rw (← c.self.view_is) (index_is fs position t.names.known name c.index-2.result.now c.self.invariant.names at)
