use Rattle.std.proofs.Common.{◌<◌, map, length, sym, subst, arith}
use Rattle.std.proofs.lemmas.List.{length-map}
use Rattle.elf_link_names.specs.Tables.{name_position}
use Rattle.elf_link_names.specs.KnownNames.{IsKnownWhole, first_site}
use Rattle.elf_link_names.specs.Resolution.{indexed}
use Rattle.elf_link_names.proofs.KnownNames.{whole_at}
use Rattle.elf_link_names.proofs.resolution.Resolution.choice.Goals as goal

pub returns : goal.returns
returns c =
    let r = c.self.inside in
    let fs = r.inputs in
    let ks = r.names.known in
    let name = indexed fs (map first_site ks) c.args.k in
    let asked = rw (← c.self.view_is) at c.requires in
    let many = length-map ks first_site in
    let within : c.args.k < length ks = omega arith in
    let whole = subst (IsKnownWhole fs name) (sym c.item.ensures)
    (whole_at fs (name_position r.names.positions) ks c.args.k within c.self.invariant.names) in
    rw (← c.self.view_is) (c.choice_of.ensures fs name whole (c.self.invariant.bound name whole.entry.0 whole.entry.1))
