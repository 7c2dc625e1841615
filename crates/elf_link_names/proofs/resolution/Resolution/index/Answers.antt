use Rattle.std.proofs.Common.{◌≡◌}
use Rattle.elf_link_names.specs.Tables.{name_position}
use Rattle.elf_link_names.proofs.ChosenCommons.{index_found}
use Rattle.elf_link_names.proofs.resolution.Resolution.index.Goals as goal

pub returns-in-Some : goal.returns-in-Some
returns-in-Some c =
    let r = c.self.inside in
    let position = name_position r.names.positions in
    let at : c.in-Some.index ≡ position c.args.name.now = c.in-Some.ensures in
    rw (← c.self.view_is, at) (index_found r.inputs position r.names.known c.args.name.now c.self.invariant.names)
