use Rattle.std.proofs.Common.{◌∙◌, ◌++◌, ◌<◌, ◌≤◌, [], ◌∷◌, List, ap, arith, length, sym, take}
use Rattle.std.proofs.lemmas.List.{take_all, take_more}
use Rattle.std.proofs.lemmas.Option.{get_or_from_slice_get}
use Rattle.elf_extent.specs.declared.extent.Extent.{Extent}
use Rattle.elf_image_rules.specs.ValidatedRecords.{file_extents}
use Rattle.elf_image_rules.proofs.file_extents.FileExtents.all.Goals as goal

pub loop-index-preserved : goal.loop-index-preserved
loop-index-preserved c =
    let es = file_extents c.args.self.now in
    let i = c.loop-index.index in
    let e = c.at.result in
    let within : i < length es = omega arith in
    c.in_ok-push.ensures.items
    ∙ ap (λ (xs : List Extent). xs ++ e ∷ []) c.loop-index.invariant
    ∙ ap (λ (x : Extent). take i es ++ x ∷ []) (sym (get_or_from_slice_get es i e e c.at.ensures))
    ∙ sym (take_more es i e within)

pub returns : goal.returns
returns c =
    let es = file_extents c.args.self.now in
    let end : length es ≤ c.loop-index.index = omega arith in
    c.loop-index.invariant ∙ take_all c.loop-index.index es end
