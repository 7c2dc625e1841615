use Rattle.std.proofs.Common.{◌<◌, get_or}
use Rattle.elf_table_hash.specs.ChainDepths.{IsDepthKnown, Leads}
use Rattle.elf_table_hash.specs.HashTable.{IsOn, chain, nchain}
use Rattle.elf_table_hash.proofs.hash_chains.KnownChains.is_on.Given as goal

abbrev pub invariant-steps : goal.invariant-steps
invariant-steps l = record {
  leads : Leads (chain l.self.words) l.start l.here;
  on : IsOn (chain l.self.words) l.start l.s → IsOn (chain l.self.words) l.here l.s;
  known : IsDepthKnown l.self.depth l.here;
  inside : l.here < nchain l.self.words;
}

abbrev pub decreases-steps : goal.decreases-steps
decreases-steps l = get_or l.self.depth l.here 0
