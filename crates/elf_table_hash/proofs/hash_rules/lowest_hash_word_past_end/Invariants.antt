use Rattle.std.proofs.Common.{ℕ, ◌<◌, ◌≤◌, ◌+◌, get_or}
use Rattle.elf_table_hash.specs.HashTable.{nchain}
use Rattle.elf_table_hash.proofs.hash_rules.lowest_hash_word_past_end.Given as goal

abbrev pub invariant-loop-k : goal.invariant-loop-k
invariant-loop-k l = (m : ℕ) → m < l.k → nchain l.parts.words ≤ get_or l.parts.words (2 + m) 0 → ⊥
