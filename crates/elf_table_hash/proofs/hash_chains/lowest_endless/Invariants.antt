use Rattle.std.proofs.Common.{◌≡◌, ℕ, ◌<◌, length}
use Rattle.elf_table_hash.specs.ChainDepths.{AreKnownChains, IsDepthKnown}
use Rattle.elf_table_hash.specs.HashTable.{bucket}
use Rattle.elf_table_hash.proofs.hash_chains.lowest_endless.Given as goal

abbrev pub invariant-loop-b : goal.invariant-loop-b
invariant-loop-b l = record {
  lists : AreKnownChains l.words l.depth l.jump l.starts;
  known : (k : ℕ) → k < l.b → IsDepthKnown l.depth (bucket l.words k);
  long : length l.path ≡ length l.initial.path;
}
