-- The places are those of the resolution's objects, so what is made of them and of the bound names is the link map. A fault of placing is
-- the link's (`link_fault`).
use Rattle.std.proofs.Common.{IfErr, List, map, refl, rules, sym, subst}
use Rattle.elf_link_outputs.specs.declared.placing.Common.{Common}
use Rattle.elf_link_outputs.specs.Placed.{common_value}
use Rattle.elf_link_map.specs.LinkMap.{IsLinkFault, AreBindings, plan_at}
use Rattle.elf_link_map.specs.Naming.{AreCommonNames}
use Rattle.elf_link_map.proofs.OneMap.{common_names}
use Rattle.elf_link_map.proofs.Plans.{if_err_map, link_fault}
use Rattle.elf_link_map.proofs.link.map_indexed.Goals as goal

pub returns-in_err-placed-clause-err : goal.returns-in_err-placed-clause-err
returns-in_err-placed-clause-err g c =
    let fs = c.args.objects.now in
    let opt = c.args.options.now in
    let found = rw c.in_ok-resolution.ensures.objects at c.placed.ensures.err in
    let fault : IfErr c.placed.result (IsLinkFault opt fs) =
    if_err_map _ (IsLinkFault opt fs) c.placed.result
    (λ f is. link_fault opt fs f c.in_ok-resolution.ensures.sound c.in_ok-resolution.ensures.options is) found in
    search rules

pub all_bindings-requires : goal.all_bindings-requires
all_bindings-requires g c =
    let a = c.in_ok-placed.placed in
    let fs = c.in_ok-resolution.resolution.objects in
    let (t, is) = c.in_ok-placed.ensures.ok in
    rw (← c.in_ok-placed.ensures.commons)
    (subst (λ (xs : List Common). AreCommonNames fs a.plan.plan.commons (map common_value xs)) (sym c.deref.ensures.value)
    (common_names fs a.plan.plan.commons a.places _ (map common_value c.in_ok-parts.parts.commons.items)
    (rw is.objects at c.in_ok-parts.ensures.commons)))

pub returns-clause-sound : goal.returns-clause-sound
returns-clause-sound g c =
    let (t, is) = rw c.in_ok-resolution.ensures.objects at c.in_ok-placed.ensures.ok in
    (c.in_ok-resolution.ensures.sound, (plan_at c.in_ok-placed.placed t, is.plan, is.sound))

pub returns-clause-map : goal.returns-clause-map
returns-clause-map g c =
    let fs = c.args.objects.now in
    let (t, is) = rw c.in_ok-resolution.ensures.objects at c.in_ok-placed.ensures.ok in (
      plan_at c.in_ok-placed.placed t,
      is.plan,
      record {
        fits = is.fits;
        addresses = rw is.objects at c.in_ok-parts.ensures.addresses;
        discarded = rw c.in_ok-resolution.ensures.objects at c.in_ok-bound.ensures.marks;
        bindings = subst (λ (xs : List Common). AreBindings fs (map common_value xs) c.in_ok-bound.bound.names) c.deref.ensures.value
            (rw c.in_ok-resolution.ensures.objects at c.in_ok-bound.ensures.bindings);
        names = rw c.in_ok-resolution.ensures.objects at c.in_ok-bound.ensures.names;
        outputs = rw (is.objects, is.page) at c.in_ok-parts.ensures.outputs;
        commons = rw is.objects at c.in_ok-parts.ensures.commons;
        base = refl;
        page = refl;
        entry = rw c.in_ok-parts.ensures.entry is.entry;
      },
    )

pub returns-clause-indexes : goal.returns-clause-indexes
returns-clause-indexes g c = (rw c.in_ok-resolution.ensures.objects at c.in_ok-bound.ensures.indexes) _ refl
