use Rattle.std.proofs.Common.{◌≡◌, ◌≤◌, ℕ, ◌<◌, get_or, length, take}
use Rattle.elf_table_hash.specs.ChainDepths.{AreKnownChains, IsDepthKnown}
use Rattle.elf_table_hash.specs.HashTable.{IsPath, chain}
use Rattle.elf_table_hash.proofs.hash_chains.settle.Given as goal

abbrev pub invariant-steps : goal.invariant-steps
invariant-steps l = record {
  few : l.left ≤ length l.path;
  path : IsPath (chain l.words) l.start (take l.left l.path) l.s;
  known : IsDepthKnown l.depth l.s;
  kept : (s : ℕ) → 0 < get_or l.initial.depth s 0 → 0 < get_or l.depth s 0;
  lists : AreKnownChains l.words l.depth l.jump l.starts;
}

abbrev pub decreases-steps : goal.decreases-steps
decreases-steps l = l.left
