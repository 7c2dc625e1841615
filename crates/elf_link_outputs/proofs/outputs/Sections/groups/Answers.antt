use Rattle.std.proofs.Common.{◌≡◌, map, ap, sym, subst, rules}
use Rattle.indexmap.specs.IndexMap.{keys, values}
use Rattle.std.proofs.lemmas.List.{get_or_read}
use Rattle.elf_link_outputs.specs.Outputs.{AreInOrder, SectionsValue}
use Rattle.elf_link_outputs.proofs.Grouped.{grouped_next}
use Rattle.elf_link_outputs.proofs.outputs.Sections.groups.Goals as goal

pub loop-k-preserved : goal.loop-k-preserved
loop-k-preserved g c =
    let sites : c.self.inside.sites.now ≡ c.args.self.now.sites = ap (λ (v : SectionsValue). v.sites) c.self.view_is in
    let order = subst (λ (v : SectionsValue). AreInOrder v.sites) c.self.view_is c.self.invariant.order in
    let many = c.in_ok-numbers.ensures.count in
    let its = sym (get_or_read c.in_ok-numbers.numbers.items _ _ (search rules) c.index.ensures 0) in
    grouped_next c.args.self.now.objects c.args.self.now.sites c.in_ok-numbers.numbers.items c.loop-k.k c.index.result.now
    (keys c.loop-k.groups) (map (λ ms. ms.items) (values c.loop-k.groups)) (keys c.add_member.new.groups)
    (map (λ ms. ms.items) (values c.add_member.new.groups))
    order (search rules) c.in_ok-numbers.ensures its (rw sites at c.in_ok-add_member.ensures) c.loop-k.invariant
