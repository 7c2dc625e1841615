use Rattle.std.proofs.Common.{◌≡◌, take}
use Rattle.elf_table_hash.specs.HashTable.{hash_of}
use Rattle.elf_table_hash.proofs.hash_building.elf_hash.Given as goal

abbrev pub invariant-loop-byte : goal.invariant-loop-byte
invariant-loop-byte l = l.hash ≡ hash_of (take l.byte-index l.name)
