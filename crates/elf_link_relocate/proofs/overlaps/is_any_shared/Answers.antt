-- Spot by spot: the sections that are passed are searched, and the spots since are of one section (`AreSearched`). At the last spot of a
-- section the search of its extents decides.
use Rattle.std.proofs.Common.{◌≡◌, ◌∙◌, refl, rules, sym, false}
use Rattle.std.proofs.lemmas.Bool.{true≢false}
use Rattle.elf_link_relocate.proofs.Spots.{found_shared, searched_all, searched_on, searched_past}
use Rattle.elf_link_relocate.specs.Passes.{IsFollowed, IsLastOfTarget}
use Rattle.elf_link_relocate.proofs.overlaps.is_any_shared.Goals.{then-is_last_of_target+in_ok-is_shared+else-branch}
use Rattle.elf_link_relocate.proofs.overlaps.is_any_shared.Goals.{else-is_last_of_target}
use Rattle.elf_link_relocate.proofs.overlaps.is_any_shared.Goals as goal

pub returns-then-branch : goal.returns-then-branch
returns-then-branch c =
    let double = c.in_ok-is_shared.ensures.0 c.if-branch.true in (
      (λ yes. found_shared c.args.fields.now c.args.end c.args.spots.now c.loop-i.i c.loop-i.from c.loop-i-test.true c.loop-i.invariant
          c.requires.spots double),
      (λ shared. refl),
    )

pub loop-i-preserved : goal.loop-i-preserved
loop-i-preserved c = elim c.if-is_last_of_target.branch [
  | then-is_last_of_target+in_ok-is_shared+else-branch w ↦ (
      let last : IsLastOfTarget c.args.spots.now c.loop-i.i = search rules in
      rw w.from-is
      (searched_past c.args.fields.now c.args.end c.args.spots.now c.loop-i.i c.loop-i.from c.loop-i-test.true c.loop-i.invariant
      c.requires.sorted last
      (λ double. true≢false (sym (w.in_ok-is_shared.ensures.1 double) ∙ w.if-branch.false))))
  | else-is_last_of_target w ↦ (
      let followed : IsFollowed c.args.spots.now c.loop-i.i = search rules in
      rw w.from-is
      (searched_on c.args.fields.now c.args.end c.args.spots.now c.loop-i.i c.loop-i.from c.loop-i-test.true c.loop-i.invariant followed))
]

pub returns : goal.returns
returns c = (
  (λ never. absurd (true≢false (sym never))),
  (λ shared. absurd (searched_all c.args.fields.now c.args.end c.args.spots.now c.loop-i.i c.loop-i.from c.requires.spots c.requires.end
      c.loop-i-test.false
      c.loop-i.invariant shared)),
)
