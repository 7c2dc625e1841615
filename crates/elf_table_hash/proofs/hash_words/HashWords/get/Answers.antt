use Rattle.std.proofs.Common.{sym, arith}
use Rattle.elf_table_hash.proofs.HashSound.{length_words, word_get}
use Rattle.elf_table_hash.proofs.hash_words.HashWords.get.Goals as goal

pub word-requires : goal.word-requires
word-requires c =
    let within = rw (← c.self.view_is) at c.requires in
    let below = rw (length_words c.self.inside.order c.self.inside.table.now) at within in
    omega arith

pub returns : goal.returns
returns c =
    let within = rw (← c.self.view_is) at c.requires in
    let below = rw (length_words c.self.inside.order c.self.inside.table.now) at within in
    rw (← c.self.view_is) (rw c.word.ensures (sym (word_get _ _ c.args.j below)))
