use Rattle.std.proofs.Common.{◌∙◌, ap, map, List, rules}
use Rattle.elf_link_files.specs.declared.site.Site.{Site}
use Rattle.elf_link_outputs.specs.Outputs.{OutputsValue}
use Rattle.elf_link_outputs.proofs.Placings.{flat_more}
use Rattle.elf_link_outputs.proofs.outputs.Outputs.sites.Goals as goal

pub loop-members-preserved : goal.loop-members-preserved
loop-members-preserved c =
    let all = c.deref-members-items.result.now in
    let groups = ap (map (λ ms. ms.items)) c.deref-members-items.ensures.value ∙ ap (λ (o : OutputsValue). o.groups) c.self.view_is in
    rw (flat_more
    (λ (ms : List Site). ms) all c.args.self.now.groups c.loop-members.members-index c.members-item.result groups c.loop-members-test.true
    c.members-item.is)
    (search rules)
