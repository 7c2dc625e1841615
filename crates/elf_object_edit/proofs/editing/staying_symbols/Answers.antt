use Rattle.std.proofs.Common.{◌≡◌, ◌<◌, Bool, List, [], ◌∷◌, ◌++◌, arith, length, map, sym, take, ap, ◌∙◌}
use Rattle.std.proofs.lemmas.List.{length-map, map_more}
use Rattle.elf_object_type.specs.Object.{SymbolValue, no_symbol}
use Rattle.elf_object_type.specs.ObjectView.{symbol_value}
use Rattle.elf_object_edit.specs.Without.{has_staying_place}
use Rattle.elf_object_edit.proofs.editing.staying_symbols.Goals as goal

pub loop-k-preserved : goal.loop-k-preserved
loop-k-preserved c =
    let f : SymbolValue → Bool = λ s. has_staying_place c.args.sections.now s.place in
    let symbols = c.args.object.now.symbols in
    let read = c.symbols-count.result.now in
    let k = c.loop-k.k in
    let same : length (map symbol_value read) ≡ length symbols = ap (λ (ss : List SymbolValue). length ss) c.symbols-count.ensures in
    let long : length (map symbol_value read) ≡ length read = length-map read symbol_value in
    let test = c.loop-k-test.true in
    let within : k < length symbols = omega arith in
    let one = c.has_staying_place.ensures ∙ ap f c.symbol_at.ensures in
    c.in_ok-push.ensures.items ∙ ap (λ (xs : List Bool). xs ++ c.has_staying_place.result ∷ []) c.loop-k.invariant ∙
    ap (λ (b : Bool). map f (take k symbols) ++ b ∷ []) one ∙ sym (map_more f symbols k no_symbol within)
