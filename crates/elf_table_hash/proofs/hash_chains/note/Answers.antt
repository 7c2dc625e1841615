-- The lists still say what is right, because the depth, jump and start of this symbol are right (`depths_more`, `jumps_more`,
-- `starts_more`). The symbol is below the number of symbols, because `start` leads to it, so it is an index of each list (`places`). Its
-- depth does not overflow, because known chains are short.
use Rattle.std.proofs.Common.{ℕ, ◌<◌, List, arith, length}
use Rattle.elf_table_hash.specs.ChainDepths.{Leads, AreKnownChains}
use Rattle.elf_table_hash.specs.HashTable.{chain, nchain}
use Rattle.elf_table_hash.proofs.Chains.{end_below, depths_more, jumps_more, starts_more}
use Rattle.elf_table_hash.proofs.hash_chains.note.Goals as goal

-- the symbol has its place in each list
record HasPlaces (words depth jump met : List ℕ) (s : ℕ) : Type 0 where
  below : s < nchain words
  in_depth : s < length depth
  in_jump : s < length jump
  in_met : s < length met

places : (words depth jump met : List ℕ) (start s : ℕ) → AreKnownChains words depth jump met → start < nchain words →
    Leads (chain words) start s → HasPlaces words depth jump met s
places words depth jump met start s are within leads =
    let below = end_below (chain words) _ start s leads.0 are.linked.chains within leads.1 in
    let depths = are.depths.long in
    let jumps = are.jumps.long in
    let starts = are.starts.long in
    record { below = below; in_depth = omega arith; in_jump = omega arith; in_met = omega arith }

pub bounds-depth-above : goal.bounds-depth-above
bounds-depth-above c = (places _ _ _ _ _ _ c.requires.lists c.requires.start c.requires.leads).in_depth

pub bounds-jump-above : goal.bounds-jump-above
bounds-jump-above c = (places _ _ _ _ _ _ c.requires.lists c.requires.start c.requires.leads).in_jump

pub bounds-starts-above : goal.bounds-starts-above
bounds-starts-above c = (places _ _ _ _ _ _ c.requires.lists c.requires.start c.requires.leads).in_met

pub returns-clause-inside : goal.returns-clause-inside
returns-clause-inside c = (places _ _ _ _ _ _ c.requires.lists c.requires.start c.requires.leads).in_depth

pub returns-clause-lists : goal.returns-clause-lists
returns-clause-lists c =
    let was = c.requires.lists in
    let below = (places _ _ _ _ _ _ was c.requires.start c.requires.leads).below in
    let depth = rw c.new-chains.ensures.depth at c.at-deep.ensures.depth in
    let far = rw c.new-chains.ensures.words at c.far_of-far.ensures.leads in
    let inside = rw c.new-chains.ensures.words at c.far_of-far.ensures.inside in
    rw depth (record {
      linked = was.linked;
      depths = depths_more _ _ _ c.args.above c.args.s was.depths c.requires.known c.requires.next c.requires.some below;
      jumps = jumps_more _ _ _ c.args.above c.args.s _ was.jumps far inside c.requires.next c.requires.some below;
      starts = starts_more _ _ _ _ c.args.above _ c.args.start was.starts c.requires.leads below;
    })
