use Rattle.elf_table_hash.proofs.HashSound.{probe_some}
use Rattle.elf_table_hash.proofs.hash.Hash.probe.Goals as goal

pub returns-clause-some : goal.returns-clause-some
returns-clause-some c =
    let probed = c.probe_in.ensures.found c.self.invariant in
    rw (← c.self.view_is)
    (probe_some (record { words = c.self.inside.words; names = c.self.inside.names }) c.args.name.now _ _ c.self.invariant probed)
