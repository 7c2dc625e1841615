use Rattle.std.proofs.Common.{◌≡◌, ℕ, List, length, ◌∙◌, ap, arith}
use Rattle.elf_link_files.specs.declared.site.Site.{Site}
use Rattle.elf_link_outputs.specs.Outputs.{placed, PlanValue}
use Rattle.elf_link_outputs.proofs.Placings.{plan_places}
use Rattle.elf_link_outputs.proofs.addresses.Addressed.section_addresses.Goals as goal

pub section_addresses-requires-clause-long : goal.section_addresses-requires-clause-long
section_addresses-requires-clause-long c =
    let sites : c.deref.result.now ≡ placed c.self.inside.plan.plan =
    c.deref.ensures.value ∙ c.plan.invariant.sites ∙ ap (λ (p : PlanValue). placed p.plan) c.plan.view_is in
    let many = ap (λ (ps : List Site). length ps) sites in
    let long = plan_places c.self.inside.plan c.self.inside.places.items c.self.invariant in
    let places = ap (λ (xs : List ℕ). length xs) c.deref-2.ensures.value in
    omega arith
