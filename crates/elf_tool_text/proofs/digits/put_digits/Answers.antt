-- One pass of the loop puts one digit. Its invariant: the digits of `rest`, in front of those that are put, are all digits of the number.
-- So a place is left for one more (`place_left`). `rest` is below a power of two that halves with each step.
use Rattle.std.proofs.Common.{◌≡◌, ◌∙◌, ◌<◌, ◌+◌, ◌-◌, ◌/◌, ◌^◌, ◌∷◌, ℕ, ap, arith, refl, false, drop, length, set, subst, sym}
use Rattle.std.specs.Fmt.{digits, digits_onto}
use Rattle.std.proofs.lemmas.List.{length-append, length-drop, length-set}
use Rattle.elf_tool_text.proofs.TextLines.{digits_append_all, fits_less, last_digit, more_digits, place_left, places_left, put_before}
use Rattle.elf_tool_text.proofs.digits.put_digits.Goals as goal

pub loop-rest-init : goal.loop-rest-init
loop-rest-init c =
    let a = c.args in
    let all : 64 + a.end - a.end ≡ 64 = omega arith in
    record {
      before = omega arith;
      kept = refl;
      places = omega arith;
      small = subst (λ (k : ℕ). a.number < 2 ^ k) (sym all) c.ranges.number.fits;
      put = ap (λ (k : ℕ). digits_onto k a.base false a.number (drop a.end a.out.now)) all ∙
          digits_append_all a.base a.number (drop a.end a.out.now);
    }

pub overflow_sub-start : goal.overflow_sub-start
overflow_sub-start c =
    let l = c.loop-rest in
    let a = c.args in
    let i = l.invariant in
    place_left a.base (64 + l.start - a.end) l.rest l.start a.end l.out a.out.now (digits a.base false a.number)
    (omega (arith, i.places)) i.put i.kept c.requires.inside c.requires.room i.before

pub bounds-out-start : goal.bounds-out-start
bounds-out-start c =
    let l = c.loop-rest in
    let a = c.args in
    let i = l.invariant in
    let left = place_left a.base (64 + l.start - a.end) l.rest l.start a.end l.out a.out.now (digits a.base false a.number)
    (omega (arith, i.places)) i.put i.kept c.requires.inside c.requires.room i.before in
    omega (arith, left, i.before, i.kept, c.requires.inside)

pub returns-then-rest-eq0-clause-digits : goal.returns-then-rest-eq0-clause-digits
returns-then-rest-eq0-clause-digits c =
    let l = c.loop-rest in
    let a = c.args in
    let i = l.invariant in
    let left = place_left a.base (64 + l.start - a.end) l.rest l.start a.end l.out a.out.now (digits a.base false a.number)
    (omega (arith, i.places)) i.put i.kept c.requires.inside c.requires.room i.before in
    put_before l.out l.start c.glyph.result left (omega (arith, i.before, i.kept, c.requires.inside))
    ∙ ap (λ (d : ℕ). d ∷ drop l.start l.out) c.glyph.ensures
    ∙ sym (last_digit a.base l.rest (drop l.start l.out) (64 + l.start - a.end) (omega (arith, i.places)) c.if-rest-eq0.true) ∙ i.put

pub returns-then-rest-eq0-clause-start : goal.returns-then-rest-eq0-clause-start
returns-then-rest-eq0-clause-start c =
    let l = c.loop-rest in
    let a = c.args in
    let i = l.invariant in
    let left = place_left a.base (64 + l.start - a.end) l.rest l.start a.end l.out a.out.now (digits a.base false a.number)
    (omega (arith, i.places)) i.put i.kept c.requires.inside c.requires.room i.before in
    let put = set l.out (l.start - 1) c.glyph.result in
    let counts : length (drop (l.start - 1) put) ≡ length (digits a.base false a.number) + length (drop a.end a.out.now) =
    ap length (returns-then-rest-eq0-clause-digits c) ∙ length-append (digits a.base false a.number) (drop a.end a.out.now) in
    omega (
      arith,
      left,
      counts,
      i.before,
      i.kept,
      c.requires.inside,
      length-drop (l.start - 1) put,
      length-drop a.end a.out.now,
      length-set l.out (l.start - 1) c.glyph.result,
    )

pub loop-rest-preserved : goal.loop-rest-preserved
loop-rest-preserved c =
    let l = c.loop-rest in
    let a = c.args in
    let i = l.invariant in
    let left = place_left a.base (64 + l.start - a.end) l.rest l.start a.end l.out a.out.now (digits a.base false a.number)
    (omega (arith, i.places)) i.put i.kept c.requires.inside c.requires.room i.before in
    let k : ℕ = 64 + l.start - a.end in
    let fewer : k - 1 ≡ 64 + (l.start - 1) - a.end = omega (arith, left, i.places) in
    let small = fits_less a.base l.rest k c.requires.least (omega (arith, i.places)) i.small in
    let some = places_left (l.rest / a.base) (k - 1) c.if-rest-eq0.false small in
    record {
      before = omega (arith, i.before);
      kept = length-set l.out (l.start - 1) c.glyph.result ∙ i.kept;
      places = omega (arith, some, left);
      small = subst (λ (j : ℕ). l.rest / a.base < 2 ^ j) fewer small;
      put = ap (λ (j : ℕ). digits_onto j a.base false (l.rest / a.base) (drop (l.start - 1) (set l.out (l.start - 1) c.glyph.result)))
          (sym fewer)
          ∙ ap (digits_onto (k - 1) a.base false (l.rest / a.base))
          (put_before l.out l.start c.glyph.result left (omega (arith, i.before, i.kept, c.requires.inside)) ∙
          ap (λ (d : ℕ). d ∷ drop l.start l.out) c.glyph.ensures)
          ∙ sym (more_digits a.base l.rest (drop l.start l.out) k (omega (arith, i.places)) c.if-rest-eq0.false) ∙ i.put;
    }
