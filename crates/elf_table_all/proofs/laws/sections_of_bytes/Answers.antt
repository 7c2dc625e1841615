use Rattle.elf_table_symbols.proofs.Public.{sections_of_bytes}
use Rattle.elf_table_all.proofs.laws.sections_of_bytes.Goals as goal

pub returns : goal.returns
returns c = sections_of_bytes
