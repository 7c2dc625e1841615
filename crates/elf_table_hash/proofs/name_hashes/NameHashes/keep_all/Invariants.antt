use Rattle.std.proofs.Common.{◌≡◌, ◌-◌, length}
use Rattle.elf_table_hash.proofs.name_hashes.NameHashes.keep_all.Given as goal

abbrev pub invariant-pieces : goal.invariant-pieces
invariant-pieces l = l.self ≡ l.fn.self

abbrev pub decreases-pieces : goal.decreases-pieces
decreases-pieces l = length l.offsets - l.from
