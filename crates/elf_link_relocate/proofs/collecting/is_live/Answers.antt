-- In the map of the objects a section has an address exactly where it is live, so its cell says it.
use Rattle.std.proofs.Common.{◌≡◌, ◌↔◌, ℕ, ◌<◌, List, length, ap, refl, sym, ◌∙◌, subst}
use Rattle.std.specs.Bool.{IsTrue}
use Rattle.std.specs.Option.{is_some}
use Rattle.std.specs.Prelude.{Bool, Option, None, Some}
use Rattle.elf_object_type.specs.Object.{ObjectValue}
use Rattle.elf_link_files.specs.Files.{Live}
use Rattle.elf_link_outputs.specs.Placed.{cell}
use Rattle.elf_link_map.specs.Standing.{ArePlacedApart}
use Rattle.elf_link_map.specs.LinkMap.{LinkMapValue}
use Rattle.elf_link_relocate.specs.Passes.{LinkingValue}
use Rattle.elf_link_relocate.proofs.Memories.{live_in}
use Rattle.elf_link_relocate.proofs.collecting.is_live.Goals as goal

number_in : (o : Option ℕ) → IsTrue (is_some o) → (a : ℕ) × (o ≡ Some a)
number_in None is = absurd (cc)
number_in (Some a) is = (a, refl)

-- a section is live where its cell has an address
live_by_cell : (fs : List ObjectValue) (m : LinkMapValue) (f s : ℕ) (o : Option ℕ) → ArePlacedApart fs m → f < length fs →
    o ≡ cell m.addresses f s →
    IsTrue (is_some o) ↔ Live fs f s
live_by_cell fs m f s o stand file same = (
  (λ is. (let (a, at) = number_in o is in ((stand.addressed f s).1 (a, sym same ∙ at)).2)),
  (λ live. (
      let (a, at) = (stand.addressed f s).0 (live_in fs f s file live) in
      subst (λ (p : Option ℕ). IsTrue (is_some p)) (sym (same ∙ at)) refl)),
)

pub returns : goal.returns
returns c =
    let fs = c.args.linking.now.objects in
    let objects : c.linking.inside.objects.now ≡ fs = ap (λ (l : LinkingValue). l.objects) c.linking.view_is in
    subst (λ (b : Bool). IsTrue b ↔ Live fs c.args.file c.args.section) (sym c.is_some.ensures)
    (live_by_cell fs c.linking.inside.map.now c.args.file c.args.section c.address.result
    (rw objects at c.linking.invariant.places) c.requires.0 c.address.ensures)
