-- A name that ends where the leader does is one of its ends, so its bound has its last leader (`lasts_set`).
use Rattle.std.proofs.Common.{◌≡◌, ◌+◌, ◌-◌, ℕ, List, [], get_or, length, sym, subst, arith}
use Rattle.elf_object_strings.specs.Leaders.{IsBoundOf, IsLastWith}
use Rattle.elf_object_strings.specs.Sorting.{names_by_ends}
use Rattle.elf_object_strings.specs.StringTable.{IsSuffix}
use Rattle.elf_object_strings.specs.declared.sorting.Numbered.{Numbered}
use Rattle.elf_object_strings.proofs.EndsOrder.{name_at, no_name}
use Rattle.elf_object_strings.proofs.LeaderOrder.{lasts_set}
use Rattle.elf_object_strings.proofs.leaders.set_lasts.Goals.{then-index-lasts+then-is_tail, else-index-lasts}
use Rattle.elf_object_strings.proofs.leaders.set_lasts.Goals as goal

pub loop-i-preserved : goal.loop-i-preserved
loop-i-preserved c = elim c.if-index-lasts.branch [
  | then-index-lasts+then-is_tail w ↦
      (let own : IsSuffix name (get_or all p []) = subst (λ (s : List ℕ). IsSuffix name s) (sym here) w.if-is_tail.ensures in
      let (k, at, is) = w.last_with.ensures in
      let found = subst (λ (s : List ℕ). IsBoundOf c.args.bounds.now (length s) k) w.name.ensures at in
      let last = c.requires.bounds.last k name own found in
      record {
        lasts = rw w.lasts-is
            (lasts_set all names c.loop-i.lasts index w.number_of.result c.loop-i.invariant.lasts
            (λ some. numbered w.number_of.result w.last_with.result (w.number_of.ensures some)
            (subst (IsLastWith all name) (sym is) last)));
      })
  | else-index-lasts w ↦ record { lasts = rw w.lasts-is c.loop-i.invariant.lasts }
] where
  names : List (List ℕ)
  names = c.args.read.now

  leaders : List Numbered
  leaders = c.args.leaders.now

  all : List (List ℕ)
  all = names_by_ends names leaders

  p : ℕ
  p = c.args.position

  index : ℕ
  index = (get_or c.args.long.now c.loop-i.i (record { end = 0; len = 0; index = 0 })).index

  name : List ℕ
  name = get_or names index []

  here : get_or all p [] ≡ get_or names (get_or leaders p no_name).index []
  here = name_at names leaders p c.requires.within

  numbered : (number last : ℕ) → number ≡ last + 1 → IsLastWith all name last → IsLastWith all name (number - 1)
  numbered number last is there = subst (IsLastWith all name) (omega arith) there
