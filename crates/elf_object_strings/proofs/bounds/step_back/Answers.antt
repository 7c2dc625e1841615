-- The last leader has one bound (`bounds_last`). Any other one has those of the next leader, cut where both have a common end, and its own
-- (`bounds_back`).
use Rattle.std.proofs.Common.{◌≡◌, ◌<◌, ◌+◌, ℕ, List, [], get_or, length, sym, ◌∙◌, arith}
use Rattle.elf_object_strings.specs.Leaders.{IsCommonEnd}
use Rattle.elf_object_strings.specs.Sorting.{names_by_ends}
use Rattle.elf_object_strings.specs.declared.sorting.Numbered.{Numbered}
use Rattle.elf_object_strings.proofs.EndsOrder.{length-names_by_ends, name_at}
use Rattle.elf_object_strings.proofs.Reach.{bounds_back, bounds_last}
use Rattle.elf_object_strings.proofs.bounds.step_back.Goals.{then-position-leaders+in_ok-cut_at, else-position-leaders}
use Rattle.elf_object_strings.proofs.bounds.step_back.Goals as goal

pub returns : goal.returns
returns c = elim c.if-position-leaders.branch [
  | then-position-leaders+in_ok-cut_at w ↦
      (let next : get_or all (p + 1) [] ≡ w.name-next.result.now = name_at names leaders (p + 1) (omega arith) ∙ sym w.name-next.ensures in
      let lt : p + 1 < length all = omega (arith, many) in
      let both : IsCommonEnd (get_or all p []) (get_or all (p + 1) []) w.common_end.result = rw (here, next) w.common_end.ensures in
      rw (c.in_ok-push.ensures.items, w.bounds-is, sym here)
      (bounds_back all c.requires.together c.args.bounds.now.items w.cut_at.new.bounds.items p w.common_end.result lt
      (c.requires.bounds w.if-position-leaders.true) both w.in_ok-cut_at.ensures))
  | else-position-leaders w ↦ (let over = w.if-position-leaders.false in
      let within = c.requires.within in
      rw (c.in_ok-push.ensures.items, w.bounds-is, c.requires.none (omega arith), sym here) (bounds_last all p (omega (arith, many))))
] where
  names : List (List ℕ)
  names = c.args.read.now

  leaders : List Numbered
  leaders = c.args.leaders.now

  all : List (List ℕ)
  all = names_by_ends names leaders

  p : ℕ
  p = c.args.position

  many : length all ≡ length leaders
  many = length-names_by_ends names leaders

  here : get_or all p [] ≡ c.name-name.result.now
  here = name_at names leaders p c.requires.within ∙ sym c.name-name.ensures
