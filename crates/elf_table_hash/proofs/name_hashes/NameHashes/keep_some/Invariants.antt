use Rattle.std.proofs.Common.{◌≡◌}
use Rattle.elf_table_hash.specs.NameHashes.{AreLanesOf}
use Rattle.elf_table_hash.proofs.name_hashes.NameHashes.keep_some.Given as goal

abbrev pub invariant-loop-k : goal.invariant-loop-k
invariant-loop-k l = record { image : l.self ≡ l.fn.self; lanes : AreLanesOf l.strings l.last l.lanes }
