-- The plan is of the resolution's files and commons. So its addresses are those of the link (`placed_at`), and its fault is the link's
-- (`placing_fault`).
use Rattle.std.proofs.Common.{refl, rules, ◌∙◌}
use Rattle.std.proofs.lemmas.Result.{IfOk-weaker}
use Rattle.elf_link_outputs.specs.Outputs.{Plan}
use Rattle.elf_link_map.specs.LinkMap.{IsAddressingFault}
use Rattle.elf_link_map.proofs.Plans.{if_err_map, placed_at, placing_fault}
use Rattle.elf_link_map.proofs.link.placed.Goals as goal

pub new-requires : goal.new-requires
new-requires g c = rw (c.objects.ensures, c.deref.ensures.value) c.in_ok-live.ensures

pub new-requires-2 : goal.new-requires-2
new-requires-2 g c = rw (c.in_ok-outputs.ensures.objects, c.objects.ensures) c.commons.ensures.symbols

pub entry_target-target-requires : goal.entry_target-target-requires
entry_target-target-requires g c = rw (← c.commons.ensures.commons) (search rules)

pub returns-clause-ok : goal.returns-clause-ok
returns-clause-ok g c =
    let outputs = rw c.objects.ensures at c.in_ok-outputs.ensures.groups in
    let target = rw (c.sites.ensures, ← c.commons.ensures.commons) at c.entry_target-target.ensures.target in
    IfOk-weaker c.new-3.result _ _
    (λ a is. (
      c.entry_target-target.result,
      placed_at c.args.options.now c.args.resolution.now.objects c.in_ok-plan.plan a c.entry_target-target.result
          (rw (is.plan, c.in_ok-plan.ensures) (c.in_ok-outputs.ensures.objects ∙ c.objects.ensures))
          (rw (is.plan, c.in_ok-plan.ensures) refl)
          (rw (is.plan, c.in_ok-plan.ensures) outputs)
          (rw (is.plan, c.in_ok-plan.ensures) c.commons.ensures.chosen)
          (rw (is.plan, c.in_ok-plan.ensures) (rw c.in_ok-plan.ensures at target)) is,
    ))
    c.new-3.ensures.ok

pub returns-clause-commons : goal.returns-clause-commons
returns-clause-commons g c =
    IfOk-weaker c.new-3.result _ _ (λ a is. rw (is.plan, c.in_ok-plan.ensures) c.commons.ensures.commons) c.new-3.ensures.ok

pub returns-clause-err : goal.returns-clause-err
returns-clause-err g c =
    let fs = c.args.resolution.now.objects in
    let opt = c.args.options.now in
    let t = c.entry_target-target.result in
    let outputs = rw c.objects.ensures at c.in_ok-outputs.ensures.groups in
    let target = rw (c.sites.ensures, ← c.commons.ensures.commons, c.in_ok-plan.ensures) at c.entry_target-target.ensures.target in
    let plan : Plan = record { outputs = c.in_ok-outputs.outputs.groups; commons = c.commons.result.now } in
    let fault = rw (c.in_ok-plan.ensures, c.in_ok-outputs.ensures.objects, c.objects.ensures) at c.new-3.ensures.err in
    if_err_map _ (IsAddressingFault opt fs) c.new-3.result
    (λ f is. placing_fault opt fs plan t f outputs c.commons.ensures.chosen target is) fault
