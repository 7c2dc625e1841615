use Rattle.elf_table_symbols.proofs.IndexTableLemmas.{first_index_table}
use Rattle.elf_table_symbols.specs.Sections.{sections_of}
use Rattle.elf_table_symbols.proofs.index_tables.index_table.Goals as goal

pub returns : goal.returns
returns c = first_index_table (sections_of c.args.image.now) c.args.i _ c.index_tables_of.ensures
