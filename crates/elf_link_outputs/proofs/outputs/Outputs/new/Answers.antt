use Rattle.std.proofs.Common.{map}
use Rattle.indexmap.specs.IndexMap.{values}
use Rattle.elf_link_outputs.proofs.Grouped.{groups_live}
use Rattle.elf_link_outputs.proofs.OutputLists.{members_in, outputs_live, outputs_some}
use Rattle.elf_link_outputs.proofs.outputs.Outputs.new.Goals as goal

pub invariant_of-result : goal.invariant_of-result
invariant_of-result g c =
    let fs = c.args.objects.now in
    let all = map (λ ms. ms.items) c.in_ok-groups-2.groups.items in
    let outputs = c.in_ok-groups-2.ensures in
    let (xs, openers, members) = outputs in
    record {
      outputs = outputs;
      within = members_in fs xs all members;
      some = outputs_some fs xs all openers members;
      live = outputs_live fs c.args.live.now xs all c.requires openers members;
    }

pub invariant_of-sections : goal.invariant_of-sections
invariant_of-sections g c = record {
  within = λ k lt. (let here = c.requires.each k lt in (here.0, here.1));
  order = c.requires.order;
}

pub bits_first-requires : goal.bits_first-requires
bits_first-requires g c =
    groups_live c.args.objects.now c.args.live.now (map (λ ms. ms.items) (values c.in_ok-groups.groups)) c.requires c.in_ok-groups.ensures
