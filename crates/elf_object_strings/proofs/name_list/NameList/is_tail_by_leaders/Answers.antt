-- If the leaders of both names are known, these and the lengths decide (`AreLed`).
use Rattle.std.proofs.Common.{◌≡◌, ◌<◌, ◌≤◌, Bool, true, false, List, [], ℕ, get_or, length, refl, sym, subst, ap₂, ◌∙◌}
use Rattle.std.proofs.Math.Dec.{leb}
use Rattle.elf_object_strings.specs.Leaders.{AreLed, range_of}
use Rattle.elf_object_strings.specs.StringTable.{is_suffix}
use Rattle.elf_object_strings.specs.declared.name_list.LeaderRange.{LeaderRange}
use Rattle.elf_object_strings.proofs.Ends.{suffix_from, tail_by_length}
use Rattle.elf_object_strings.proofs.name_list.NameList.is_tail_by_leaders.Goals as goal

led_in : (names inside : List (List ℕ)) (ranges : List LeaderRange) → inside ≡ names → AreLed inside ranges → AreLed names ranges
led_in names inside ranges is led = subst (λ (these : List (List ℕ)). AreLed these ranges) is led

pub returns-then-has : goal.returns-then-has
returns-then-has c =
    let ranges = c.self.inside.ranges.now in
    let led = led_in c.args.self.now _ ranges c.self.view_is c.self.invariant in
    let has = rw (c.range_at-range.ensures, c.range_at-last.ensures) at c.if-has.ensures.yes in
    ap₂ (λ (a b : List ℕ). leb (length a) (length b)) c.name-name.ensures c.name-other.ensures
    ∙ tail_by_length (get_or c.args.self.now c.args.a []) (get_or c.args.self.now c.args.b [])
    (λ fits. led.tails c.args.a c.args.b (subst (λ (range : LeaderRange). 0 < range.last) c.range_at-range.ensures c.if-range-gt0.true)
    (subst (λ (range : LeaderRange). 0 < range.last) c.range_at-last.ensures c.if-last-gt0.true)
    (record { first = has.0; last = has.1; fits = fits }))

pub returns-else-has : goal.returns-else-has
returns-else-has c =
    c.if-has.false ∙ sym (by (is_suffix (get_or c.args.self.now c.args.a []) (get_or c.args.self.now c.args.b [])) refl) where
      by : (b : Bool) → is_suffix (get_or c.args.self.now c.args.a []) (get_or c.args.self.now c.args.b []) ≡ b → b ≡ false
      by false is = refl
      by true is =
          let ranges = c.self.inside.ranges.now in
          let led = led_in c.args.self.now _ ranges c.self.view_is c.self.invariant in
          let within =
          led.only c.args.a c.args.b (subst (λ (range : LeaderRange). 0 < range.last) c.range_at-range.ensures c.if-range-gt0.true)
          (subst (λ (range : LeaderRange). 0 < range.last) c.range_at-last.ensures c.if-last-gt0.true) (suffix_from _ _ is) in
          absurd (c.if-has.ensures.no
          (subst (λ (range : LeaderRange). range.first ≤ c.range_at-last.result.last) (sym c.range_at-range.ensures)
          (subst (λ (range : LeaderRange). (range_of ranges c.args.a).first ≤ range.last) (sym c.range_at-last.ensures) within.first))
          (subst (λ (range : LeaderRange). c.range_at-last.result.last ≤ range.last) (sym c.range_at-range.ensures)
          (subst (λ (range : LeaderRange). range.last ≤ (range_of ranges c.args.a).last) (sym c.range_at-last.ensures) within.last)))
