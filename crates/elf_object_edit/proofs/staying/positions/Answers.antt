-- One pass of the loop adds the new position of one more, which is the number of those before it that stay. That number is at most the
-- position (`place_le`), so it does not overflow. After the last one the list has all positions.
use Rattle.std.proofs.Common.{◌≡◌, ◌+◌, ◌++◌, [], ◌∷◌, List, ℕ, length, map, ap, ◌∙◌, sym, arith, zero-add}
use Rattle.std.specs.List.{range_with_len}
use Rattle.std.proofs.lemmas.List.FromFn.{length-map-range_with_len, map-range_with_len_more}
use Rattle.elf_object_edit.specs.Without.{new_position, stays}
use Rattle.elf_object_type.proofs.Public.{place_le, place_one, place_other}
use Rattle.elf_object_edit.proofs.staying.positions.Goals.{then-stays, else-stays}
use Rattle.elf_object_edit.proofs.staying.positions.Goals as goal

pub overflow_add-kept : goal.overflow_add-kept
overflow_add-kept c = let few = place_le (stays c.args.marks.now) c.loop-i.i in omega arith

pub loop-i-preserved : goal.loop-i-preserved
loop-i-preserved c =
    let P = new_position c.args.marks.now in
    let i = c.loop-i.i in
    record {
      done =
          c.in_ok-push.ensures.items ∙ ap (λ (xs : List ℕ). xs ++ c.loop-i.kept ∷ []) c.loop-i.invariant.done ∙
          ap (λ (k : ℕ). map P (range_with_len 0 i) ++ k ∷ []) c.loop-i.invariant.kept ∙ sym (map-range_with_len_more P 0 i i (zero-add i));
      kept = elim c.if-stays.branch [
        | then-stays w ↦
            w.kept-is ∙ ap (λ (k : ℕ). k + 1) c.loop-i.invariant.kept ∙
            sym (place_one (stays c.args.marks.now) i (rw c.stays.ensures at w.if-stays.true))
        | else-stays w ↦
            w.kept-is ∙ c.loop-i.invariant.kept ∙ sym (place_other (stays c.args.marks.now) i (rw c.stays.ensures at w.if-stays.false))
      ];
    }

pub returns : goal.returns
returns c =
    let marks = c.args.marks.now in
    let P = new_position marks in
    let i = c.loop-i.i in
    let end : i ≡ length marks = omega arith in
    let right : c.push-2.new.self.items ≡ map P (range_with_len 0 (length marks + 1)) =
    c.in_ok-push-2.ensures.items ∙ ap (λ (xs : List ℕ). xs ++ c.loop-i.kept ∷ []) c.loop-i.invariant.done ∙
    ap (λ (k : ℕ). map P (range_with_len 0 i) ++ k ∷ []) c.loop-i.invariant.kept ∙ sym (map-range_with_len_more P 0 i i (zero-add i)) ∙
    ap (λ (n : ℕ). map P (range_with_len 0 (n + 1))) end in
    record {
      long = ap (λ (xs : List ℕ). length xs) right ∙ length-map-range_with_len P 0 (length marks + 1);
      right = right;
    }
