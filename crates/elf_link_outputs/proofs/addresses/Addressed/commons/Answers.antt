use Rattle.std.proofs.Common.{◌≡◌, ℕ, List, length, rules, vec_len, ◌∙◌, ap, arith}
use Rattle.elf_link_files.specs.declared.site.Chosen.{Chosen}
use Rattle.elf_link_files.specs.declared.site.Site.{Site}
use Rattle.elf_link_outputs.specs.Outputs.{placed, PlanValue}
use Rattle.elf_link_outputs.proofs.Placings.{plan_places}
use Rattle.elf_link_outputs.proofs.addresses.Addressed.commons.Goals as goal

pub placed_commons-requires-clause-places : goal.placed_commons-requires-clause-places
placed_commons-requires-clause-places c =
    let p = c.plan.inside in
    let sites : p.sites.items ≡ placed c.self.inside.plan.plan =
    c.plan.invariant.sites ∙ ap (λ (p : PlanValue). placed p.plan) c.plan.view_is in
    let commons : p.commons.now ≡ c.self.inside.plan.plan.commons = ap (λ (p : PlanValue). p.plan.commons) c.plan.view_is in
    let many = ap (λ (ps : List Site). length ps) sites in
    let wide : length p.sites.items ≡ vec_len p.sites = search rules in
    let len = c.len.ensures in
    let rest = ap (λ (cs : List Chosen). length cs) commons in
    let long = plan_places c.self.inside.plan c.self.inside.places.items c.self.invariant in
    let places = ap (λ (xs : List ℕ). length xs) c.deref.ensures.value in
    omega arith
