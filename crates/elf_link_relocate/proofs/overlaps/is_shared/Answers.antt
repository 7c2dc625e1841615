use Rattle.std.proofs.Common.{◌≡◌, ◌∙◌, List, ap, map, subst, sym}
use Rattle.std.proofs.lemmas.List.{take_all}
use Rattle.elf_extent.specs.Extent.{Doubly, IsLowest}
use Rattle.elf_extent.specs.declared.extent.Extent.{Extent}
use Rattle.elf_link_relocate.proofs.Spots.{found_double}
use Rattle.elf_link_relocate.specs.Passes.{field_extent}
use Rattle.elf_link_relocate.proofs.overlaps.is_shared.Goals as goal

pub returns-in-Ok : goal.returns-in-Ok
returns-in-Ok c =
    let of = field_extent c.args.fields.now c.args.end in
    let all : c.deref.result.now ≡ map of c.args.spots.now =
    c.deref.ensures.value ∙ c.loop-spot.invariant ∙ ap (map of) (take_all c.loop-spot.spot-index c.args.spots.now c.loop-spot-test.false) in
    let lowest = subst (λ (es : List Extent). IsLowest (Doubly es) c.in-Ok.found) all c.in-Ok.ensures.lowest in
    let (some, double) = found_double (map of c.args.spots.now) c.in-Ok.found lowest in
    ((λ yes. some (sym c.is_some.ensures ∙ yes)), (λ there. c.is_some.ensures ∙ double there))
