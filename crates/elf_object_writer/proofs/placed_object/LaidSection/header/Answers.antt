use Rattle.elf_object_writer.proofs.HeaderTables.{own_header_read, symbols_header_read}
use Rattle.elf_object_writer.proofs.placed_object.LaidSection.header.Goals as goal

pub returns-in-Own : goal.returns-in-Own
returns-in-Own c =
    own_header_read c.args.self.now.placed.now.object c.args.self.now.section c.in-Own.position c.args.sh_name c.args.sh_offset
    c.content_size.result c.own_header.result c.in-Own.is
    c.content_size.ensures c.own_header.ensures

pub returns-in-SymbolTable : goal.returns-in-SymbolTable
returns-in-SymbolTable c =
    symbols_header_read c.args.self.now.placed.now.object c.args.self.now.section c.args.sh_name c.args.sh_offset c.content_size.result
    c.strings_index.result c.local_info.result c.in-SymbolTable.is
    c.content_size.ensures c.strings_index.ensures.value c.local_info.ensures
