-- One pass of the loop puts one digit. Its invariant: the digits so far are the last ones of the number, and `rest` has the others. If
-- `rest` is 0, the digits are all.
use Rattle.std.proofs.Common.{◌≡◌, ◌∙◌, ◌-◌, ◌/◌, ℕ, ◌∷◌, false, ap, arith, drop, rules, set, sym}
use Rattle.std.proofs.lemmas.List.{drop_all, length-set}
use Rattle.std.specs.Fmt.{digits, digits_onto}
use Rattle.elf_tool_text.proofs.TextLines.{last_digit, more_digits, put_before}
use Rattle.elf_tool_text.proofs.digits.put_wide_digits.Goals as goal

pub loop-start-init : goal.loop-start-init
unfolding digits
loop-start-init c = record {
  least = omega arith;
  inside = omega arith;
  room = search rules;
  put = ap (digits_onto 64 16 false c.args.number) (drop_all 67 c.args.out.now (search rules));
}

pub loop-start-preserved : goal.loop-start-preserved
loop-start-preserved c =
    let l = c.loop-start in
    let a = c.args in
    let test = c.loop-start-test.true in
    let is = ap (λ (d : ℕ). d ∷ drop l.start l.out) c.glyph.ensures in
    let put = put_before l.out l.start c.glyph.result (omega arith) (omega (arith, l.invariant)) ∙ is in
    let less : l.start - 1 - 3 ≡ l.start - 3 - 1 = omega arith in
    let kept = length-set l.out (l.start - 1) c.glyph.result in
    record {
      least = omega arith;
      inside = omega (arith, l.invariant);
      room = kept ∙ l.invariant.room;
      put = ap (λ (k : ℕ). digits_onto k 16 false (l.rest / 16) (drop (l.start - 1) (set l.out (l.start - 1) c.glyph.result))) less
          ∙ ap (digits_onto (l.start - 3 - 1) 16 false (l.rest / 16)) put
          ∙ sym (more_digits 16 l.rest (drop l.start l.out) (l.start - 3) (omega arith) c.if-rest-eq0.false) ∙ l.invariant.put;
    }

pub returns-then-rest-eq0 : goal.returns-then-rest-eq0
returns-then-rest-eq0 c =
    let l = c.loop-start in
    let a = c.args in
    let test = c.loop-start-test.true in
    let is = ap (λ (d : ℕ). d ∷ drop l.start l.out) c.glyph.ensures in
    let put = put_before l.out l.start c.glyph.result (omega arith) (omega (arith, l.invariant)) ∙ is in
    record {
      room = omega arith;
      inside = omega (arith, l.invariant);
      digits = put ∙ sym (last_digit 16 l.rest (drop l.start l.out) (l.start - 3) (omega arith) c.if-rest-eq0.true) ∙ l.invariant.put;
    }
