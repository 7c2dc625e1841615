-- One pass of the loop adds the position of one more section, which is the number of kept sections so far. That number is at most the index
-- (`place_le`), so it does not overflow. After the last section the list has all positions.
use Rattle.std.proofs.Common.{◌≡◌, ◌+◌, ◌++◌, [], ◌∷◌, List, ℕ, length, map, ap, ◌∙◌, sym, arith, zero-add}
use Rattle.std.specs.List.{range_with_len}
use Rattle.std.proofs.lemmas.List.FromFn.{length-map-range_with_len, map-range_with_len_more}
use Rattle.elf_object_layout.specs.SectionsLeftOut.{is_kept}
use Rattle.elf_object_reader.specs.Denotes.{position_of}
use Rattle.elf_table_symbols.specs.Sections.{count}
use Rattle.elf_object_reader.specs.FileRules.{sections_of_file}
use Rattle.elf_object_type.proofs.Public.{place_le, place_one, place_other}
use Rattle.elf_object_reader.proofs.object_file.ObjectFile.positions.Goals.{then-is_kept, else-is_kept}
use Rattle.elf_object_reader.proofs.object_file.ObjectFile.positions.Goals as goal

pub overflow_add-kept : goal.overflow_add-kept
overflow_add-kept c =
    let few = place_le (is_kept c.args.self.now.left (sections_of_file c.args.self.now)) c.loop-i.i in
    omega arith

pub loop-i-preserved : goal.loop-i-preserved
loop-i-preserved c =
    let f = sections_of_file c.args.self.now in
    let left = c.args.self.now.left in
    let P = position_of left f in
    let i = c.loop-i.i in
    record {
      done =
          c.in_ok-push.ensures.items ∙ ap (λ (xs : List ℕ). xs ++ c.loop-i.kept ∷ []) c.loop-i.invariant.done ∙
          ap (λ (k : ℕ). map P (range_with_len 0 i) ++ k ∷ []) c.loop-i.invariant.kept ∙ sym (map-range_with_len_more P 0 i i (zero-add i));
      kept = elim c.if-is_kept.branch [
        | then-is_kept w ↦
            w.kept-is ∙ ap (λ (k : ℕ). k + 1) c.loop-i.invariant.kept ∙
            sym (place_one (is_kept left f) i (rw c.is_kept.ensures.value at w.if-is_kept.true))
        | else-is_kept w ↦
            w.kept-is ∙ c.loop-i.invariant.kept ∙ sym (place_other (is_kept left f) i (rw c.is_kept.ensures.value at w.if-is_kept.false))
      ];
    }

pub returns : goal.returns
returns c =
    let f = sections_of_file c.args.self.now in
    let left = c.args.self.now.left in
    let P = position_of left f in
    let i = c.loop-i.i in
    let end : i ≡ count f = omega arith in
    let right : c.push-2.new.self.items ≡ map P (range_with_len 0 (count f + 1)) =
    c.in_ok-push-2.ensures.items ∙ ap (λ (xs : List ℕ). xs ++ c.loop-i.kept ∷ []) c.loop-i.invariant.done ∙
    ap (λ (k : ℕ). map P (range_with_len 0 i) ++ k ∷ []) c.loop-i.invariant.kept ∙ sym (map-range_with_len_more P 0 i i (zero-add i)) ∙
    ap (λ (n : ℕ). map P (range_with_len 0 (n + 1))) end in
    record {
      long = ap (λ (xs : List ℕ). length xs) right ∙ length-map-range_with_len P 0 (count f + 1);
      right = right;
    }
