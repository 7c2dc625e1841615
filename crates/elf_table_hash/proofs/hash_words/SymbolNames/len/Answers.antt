use Rattle.std.proofs.Common.{sym}
use Rattle.elf_table_hash.proofs.HashSound.{length_names}
use Rattle.elf_table_hash.proofs.hash_words.SymbolNames.len.Goals as goal

pub returns : goal.returns
returns c = rw (← c.self.view_is) (sym (length_names _ _ _))
