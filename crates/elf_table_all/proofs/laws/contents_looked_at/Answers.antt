use Rattle.elf_table_all.proofs.Alone.{looked_at}
use Rattle.elf_table_all.proofs.laws.contents_looked_at.Goals as goal

pub returns : goal.returns
returns c = looked_at
