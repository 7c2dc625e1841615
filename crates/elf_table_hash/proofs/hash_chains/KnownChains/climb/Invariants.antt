use Rattle.std.proofs.Common.{◌≡◌, ◌≤◌, ◌<◌, ◌-◌, length, take}
use Rattle.elf_table_hash.specs.HashTable.{IsPath, chain, nchain}
use Rattle.elf_table_hash.proofs.hash_chains.KnownChains.climb.Given as goal

abbrev pub invariant-steps : goal.invariant-steps
invariant-steps l = record {
  path : IsPath (chain l.self.words) l.start (take l.count l.path) l.s;
  inside : l.s < nchain l.self.words;
  few : l.count ≤ nchain l.self.words;
  long : length l.path ≡ length l.initial.path;
}

-- the steps that are left
abbrev pub decreases-steps : goal.decreases-steps
decreases-steps l = nchain l.self.words - l.count
