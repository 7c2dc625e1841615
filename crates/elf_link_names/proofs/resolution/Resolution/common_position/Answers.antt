use Rattle.std.proofs.Common.{◌≡◌, ◌<◌, map, length, get_or, sym, ◌∙◌, subst, arith}
use Rattle.std.proofs.lemmas.List.{get_or_default}
use Rattle.elf_link_names.specs.Resolution.{IsCommonOf, indexed}
use Rattle.elf_link_names.specs.KnownNames.{first_site}
use Rattle.elf_link_names.proofs.resolution.Resolution.common_position.Goals as goal

pub returns : goal.returns
returns c =
    let r = c.self.inside in
    let fs = r.inputs in
    let cs = r.commons.items in
    let name = indexed fs (map first_site r.names.known) c.args.k in
    let asked = rw (← c.self.view_is) at c.requires in
    let (size, align, binds) = asked.common in
    let (j, is) = c.self.invariant.all name size align binds in
    let ranks = c.self.invariant.ranks in
    let long = ranks.long in
    let lt = asked.name in
    let within : c.args.k < length r.ranks.items = omega arith in
    let here : get_or r.ranks.items c.args.k 0 ≡ c.index.result.now =
    get_or_default r.ranks.items c.args.k 0 c.index.result.now within ∙ sym c.index.ensures in
    rw (← c.self.view_is) (subst (IsCommonOf fs cs name) here (ranks.right c.args.k j lt is.0 is))
