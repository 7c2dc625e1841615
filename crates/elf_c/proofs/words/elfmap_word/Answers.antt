use Rattle.elf_c.proofs.Listed.{put_there, put_value}
use Rattle.elf_c.proofs.ReadWords.{group_words_listed, word_listed_as}
use Rattle.elf_c.proofs.words.elfmap_word.Goals as goal

pub returns-clause-there : goal.returns-clause-there
returns-clause-there c i are =
    put_there _ _ _ _ (word_listed_as c.args.table.now c.args.bytes.now i c.args.index _ are c.word_of.ensures) c.put.ensures.there

pub returns-clause-value : goal.returns-clause-value
returns-clause-value c i are =
    put_value _ _ _ _ _
    (word_listed_as c.args.table.now c.args.bytes.now i c.args.index _ are c.word_of.ensures) c.put.ensures.there c.put.ensures.value

pub returns-clause-group : goal.returns-clause-group
returns-clause-group c i is = group_words_listed c.args.table.now c.args.bytes.now i is

pub returns-clause-lies : goal.returns-clause-lies
returns-clause-lies c = put_there _ _ _ _ c.word_of.ensures c.put.ensures.there

pub returns-clause-read : goal.returns-clause-read
returns-clause-read c = put_value _ _ _ _ _ c.word_of.ensures c.put.ensures.there c.put.ensures.value
