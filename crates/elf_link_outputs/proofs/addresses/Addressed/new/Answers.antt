-- The parts that the plan holds are those of its value, so what was answered of the one holds of the other.
use Rattle.std.proofs.Common.{◌≡◌, ℕ, List, IfErr, length, rules, refl, sym, ◌∙◌, ap, subst}
use Rattle.std.specs.Prelude.{None}
use Rattle.elf_extent.specs.Place.{EndsFit, Least}
use Rattle.elf_link_files.specs.Rows.{FirstAt}
use Rattle.elf_link_outputs.specs.Addresses.{IsAddressFault, HasValue, IsTargetBelow, address_rules}
use Rattle.elf_link_outputs.specs.Outputs.{PlanValue, plan_parts}
use Rattle.elf_link_outputs.proofs.Placings.{plan_long}
use Rattle.elf_link_outputs.proofs.addresses.Addressed.new.Goals as goal

pub addresses-requires : goal.addresses-requires
addresses-requires c =
    let parts : c.deref.result.now ≡ plan_parts c.args.plan =
    c.deref.ensures.value ∙ c.plan.invariant.parts ∙ ap (λ (p : PlanValue). plan_parts p) c.plan.view_is in
    subst (λ (n : ℕ). IsTargetBelow n c.args.target) (sym (ap (λ (ps : List (ℕ × ℕ)). length ps) parts ∙ plan_long c.args.plan)) c.requires

pub returns-in_err-found-clause-err : goal.returns-in_err-found-clause-err
returns-in_err-found-clause-err c =
    let parts : c.deref.result.now ≡ plan_parts c.args.plan =
    c.deref.ensures.value ∙ c.plan.invariant.parts ∙ ap (λ (p : PlanValue). plan_parts p) c.plan.view_is in
    let fault = subst
    (λ (ps : List (ℕ × ℕ)). IfErr c.addresses.result (IsAddressFault ps c.args.base c.args.target)) parts c.addresses.ensures.err in
    search rules

pub invariant_of-result : goal.invariant_of-result
invariant_of-result c =
    let parts : c.deref.result.now ≡ plan_parts c.args.plan =
    c.deref.ensures.value ∙ c.plan.invariant.parts ∙ ap (λ (p : PlanValue). plan_parts p) c.plan.view_is in
    let places = c.in_ok-found.found.places.items in (
      c.args.base,
      subst (λ (ps : List (ℕ × ℕ)). Least ps c.args.base places) parts c.in_ok-found.ensures.least,
      subst (λ (ps : List (ℕ × ℕ)). EndsFit ps places (length ps)) parts c.in_ok-found.ensures.fits,
    )

pub returns-clause-ok : goal.returns-clause-ok
returns-clause-ok c =
    let parts : c.deref.result.now ≡ plan_parts c.args.plan =
    c.deref.ensures.value ∙ c.plan.invariant.parts ∙ ap (λ (p : PlanValue). plan_parts p) c.plan.view_is in
    let found = c.in_ok-found.found in
    record {
      plan = refl;
      sound = subst (λ (ps : List (ℕ × ℕ)). FirstAt (address_rules ps c.args.base c.args.target) None) parts c.in_ok-found.ensures.sound;
      least = subst (λ (ps : List (ℕ × ℕ)). Least ps c.args.base found.places.items) parts c.in_ok-found.ensures.least;
      fits = subst (λ (ps : List (ℕ × ℕ)). EndsFit ps found.places.items (length ps)) parts c.in_ok-found.ensures.fits;
      entry = subst (λ (ps : List (ℕ × ℕ)). HasValue ps c.args.base c.args.target found.entry) parts c.in_ok-found.ensures.entry;
    }
