use Rattle.elf_link_names.specs.Tables.{name_position}
use Rattle.elf_link_names.proofs.KnownNames.{whole_firsts, whole_places}
use Rattle.elf_link_names.proofs.resolution.Resolution.into_parts.Goals as goal

pub returns-clause-firsts : goal.returns-clause-firsts
returns-clause-firsts c =
    let r = c.self.inside in
    rw (← c.self.view_is) (whole_firsts r.inputs (name_position r.names.positions) r.names.known c.self.invariant.names)

pub returns-clause-positions : goal.returns-clause-positions
returns-clause-positions c =
    let r = c.self.inside in
    rw (← c.self.view_is) (whole_places r.inputs (name_position r.names.positions) r.names.known c.self.invariant.names)
