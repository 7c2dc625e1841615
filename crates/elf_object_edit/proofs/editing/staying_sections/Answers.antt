use Rattle.std.proofs.Common.{Bool, ℕ, false, get_or, List, [], ◌∷◌, ◌++◌, map, sym, ap, ◌∙◌, zero-add}
use Rattle.std.specs.Prelude.{not}
use Rattle.std.specs.List.{range_with_len}
use Rattle.std.proofs.lemmas.List.FromFn.{map-range_with_len_more}
use Rattle.elf_object_edit.proofs.editing.staying_sections.Goals as goal

pub loop-p-preserved : goal.loop-p-preserved
loop-p-preserved c =
    let f : ℕ → Bool = λ p. not (get_or c.args.left_out.now p false) in
    let p = c.loop-p.p in
    c.in_ok-push.ensures.items ∙ ap (λ (xs : List Bool). xs ++ not c.stays.result ∷ []) c.loop-p.invariant ∙
    ap (λ (b : Bool). map f (range_with_len 0 p) ++ not b ∷ []) c.stays.ensures ∙ sym (map-range_with_len_more f 0 p p (zero-add p))
