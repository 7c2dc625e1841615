use Rattle.std.proofs.Common.{sym}
use Rattle.elf_table_hash.proofs.HashSound.{length_words}
use Rattle.elf_table_hash.proofs.hash_words.HashWords.len.Goals as goal

pub returns : goal.returns
returns c = rw (← c.self.view_is) (sym (length_words _ _))
