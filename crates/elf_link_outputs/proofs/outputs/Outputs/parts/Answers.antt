use Rattle.std.proofs.Common.{◌≡◌, sym, ◌∙◌, ap, map, subst, rules}
use Rattle.elf_link_files.specs.Rows.{AreIn}
use Rattle.elf_link_outputs.specs.Outputs.{output_parts, OutputsValue}
use Rattle.elf_link_outputs.proofs.Placings.{flat_more}
use Rattle.elf_link_outputs.proofs.OutputLists.{item_in}
use Rattle.elf_link_outputs.proofs.outputs.Outputs.parts.Goals as goal

pub push_parts-requires : goal.push_parts-requires
push_parts-requires c =
    let fs = c.self.inside.objects.now in
    let all = c.deref-members-items.result.now in
    subst (AreIn fs) (sym c.deref.ensures.value)
    (item_in fs all c.loop-members.members-index c.members-item.result
    (rw c.deref-members-items.ensures.value c.self.invariant.within) c.loop-members-test.true c.members-item.is)

pub loop-members-preserved : goal.loop-members-preserved
loop-members-preserved c =
    let all = c.deref-members-items.result.now in
    let objects : c.self.inside.objects.now ≡ c.args.self.now.objects = ap (λ (o : OutputsValue). o.objects) c.self.view_is in
    let groups = ap (map (λ ms. ms.items)) c.deref-members-items.ensures.value ∙ ap (λ (o : OutputsValue). o.groups) c.self.view_is in
    rw (flat_more
    (output_parts c.args.self.now.objects c.args.page) all c.args.self.now.groups c.loop-members.members-index c.members-item.result groups
    c.loop-members-test.true c.members-item.is)
    (search rules)
