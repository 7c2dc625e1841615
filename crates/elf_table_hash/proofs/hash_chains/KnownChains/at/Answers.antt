use Rattle.elf_table_hash.proofs.Chains.{depth_short}
use Rattle.elf_table_hash.proofs.hash_chains.KnownChains.at.Goals as goal

pub returns-clause-short : goal.returns-clause-short
returns-clause-short c known =
    let inside = rw (← c.self.view_is) at c.requires in
    let own = rw (← c.self.view_is) at known in
    let short = depth_short _ _ _ c.args.s c.self.invariant.linked.chains c.self.invariant.depths own inside in
    rw (← c.self.view_is) short

pub returns-clause-jump : goal.returns-clause-jump
returns-clause-jump c =
    let inside = rw (← c.self.view_is) at c.requires in
    rw (← c.self.view_is) (c.self.invariant.jumps.right c.args.s inside)
