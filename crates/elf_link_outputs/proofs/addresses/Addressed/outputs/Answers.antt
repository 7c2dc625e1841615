use Rattle.std.proofs.Common.{◌≡◌, ℕ, List, length, map, ◌∙◌, ap, arith}
use Rattle.elf_link_files.specs.declared.site.Site.{Site}
use Rattle.elf_link_outputs.specs.Outputs.{flat, OutputsValue, PlanValue, plan_parts}
use Rattle.elf_link_outputs.proofs.Placings.{plan_long}
use Rattle.elf_link_outputs.proofs.addresses.Addressed.outputs.Goals as goal

pub placed_outputs-requires-clause-parts : goal.placed_outputs-requires-clause-parts
placed_outputs-requires-clause-parts c =
    let plan = c.self.inside.plan in
    let groups : map (λ ms. ms.items) c.deref.result.now ≡ plan.plan.outputs =
    ap (map (λ ms. ms.items)) c.deref.ensures.value ∙ ap (λ (o : OutputsValue). o.groups) c.outputs.view_is ∙
    ap (λ (p : PlanValue). p.plan.outputs) c.plan.view_is in
    let sites = ap (λ (oss : List (List Site)). length (flat oss)) groups in
    let parts : c.deref-2.result.now ≡ plan_parts plan =
    c.deref-2.ensures.value ∙ c.plan.invariant.parts ∙ ap (λ (p : PlanValue). plan_parts p) c.plan.view_is in
    let many = ap (λ (ps : List (ℕ × ℕ)). length ps) parts in
    let long = plan_long plan in
    omega arith
