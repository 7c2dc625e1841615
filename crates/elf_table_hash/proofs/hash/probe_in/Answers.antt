use Rattle.std.proofs.Common.{◌≡◌, ◌+◌, ◌%◌, ℕ, List, get_or, ap₂, subst, sym, ◌∙◌}
use Rattle.elf_table_hash.specs.HashTable.{hash_of, bucket, bucket_of, nbucket, IsEndingChain}
use Rattle.elf_table_hash.proofs.HashSound.{bucket_chain}
use Rattle.elf_table_hash.proofs.hash.probe_in.Goals as goal

-- the word that the walk begins at is that of the name's bucket
start_is : (words : List ℕ) (name : List ℕ) (start hash buckets : ℕ) → start ≡ get_or words (2 + hash % buckets) 0 → hash ≡ hash_of name →
    buckets ≡ nbucket words → bucket_of words name ≡ start
unfolding bucket
start_is words name start hash buckets read hashed counted =
    sym (read ∙ ap₂ (λ (h n : ℕ). get_or words (2 + h % n) 0) hashed counted)

pub returns-clause-found : goal.returns-clause-found
returns-clause-found c valid =
    let words = c.args.words.now in
    let names = c.args.names.now in
    let name = c.args.name.now in
    let start = start_is words name c.word_or_zero-start.result c.elf_hash.result c.word_or_zero-nbucket.result c.word_or_zero-start.ensures
    c.elf_hash.ensures c.word_or_zero-nbucket.ensures in
    rw start (c.first_named.ensures.found (subst (IsEndingChain words names) start (bucket_chain words names name valid)))

pub returns-clause-few : goal.returns-clause-few
returns-clause-few c valid =
    let words = c.args.words.now in
    let names = c.args.names.now in
    let name = c.args.name.now in
    let start = start_is words name c.word_or_zero-start.result c.elf_hash.result c.word_or_zero-nbucket.result c.word_or_zero-start.ensures
    c.elf_hash.ensures c.word_or_zero-nbucket.ensures in
    c.first_named.ensures.few (subst (IsEndingChain words names) start (bucket_chain words names name valid))
