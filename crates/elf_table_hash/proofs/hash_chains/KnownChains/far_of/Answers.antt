use Rattle.elf_table_hash.proofs.Chains.{leads_join}
use Rattle.elf_table_hash.proofs.hash_chains.KnownChains.far_of.Goals as goal

pub returns-then-here-farther-clause-leads : goal.returns-then-here-farther-clause-leads
returns-then-here-farther-clause-leads c = leads_join _ c.args.s _ _ c.at-here.ensures.jump c.at-far.ensures.jump
