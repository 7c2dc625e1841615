-- After the parts so far one more is written (`flat_more`); if it fails, a beginning of all parts is (`parts_err`). All parts, joined, are
-- the
-- file (`joined_parts`).
use Rattle.std.proofs.Common.{List, ℕ, ap, map, subst, sym, take, take_all, ◌∙◌}
use Rattle.std.proofs.KnownBytes.{Appends-trans}
use Rattle.std.proofs.lemmas.List.{get_or_default}
use Rattle.std.specs.List.{flat_map}
use Rattle.std.specs.Io.KnownBytes.{Appends}
use Rattle.elf_image_outline.proofs.EntriesOut.{flat_more}
use Rattle.elf_image_outline.proofs.PartsOut.{bytes_in_parts, joined_parts, out_fits, part_in, parts_err}
use Rattle.elf_image_type.proofs.files.write_parts.Goals as goal

pub write_part-requires-clause-some : goal.write_part-requires-clause-some
write_part-requires-clause-some g c =
    (part_in c.args.outline.now _ c.args.file.now c.parts-part-items.result.now c.loop-part.part-index _ c.requires
    c.parts-part-items.ensures.value c.loop-part-test.true).some

pub write_part-requires-clause-whole : goal.write_part-requires-clause-whole
write_part-requires-clause-whole g c =
    (part_in c.args.outline.now _ c.args.file.now c.parts-part-items.result.now c.loop-part.part-index _ c.requires
    c.parts-part-items.ensures.value c.loop-part-test.true).whole

pub after-requires : goal.after-requires
after-requires g c =
    let failed =
    parts_err c.args.outline.now _ c.args.file.now c.parts-part-items.result.now c.loop-part.part-index c.in-Err.fault.written _ _ _ _
    c.requires c.parts-part-items.ensures.value
    c.loop-part-test.true c.loop-part.invariant c.in-Err.ensures in
    out_fits _ _ c.requires failed.0

pub returns-in-Err : goal.returns-in-Err
returns-in-Err g c =
    rw c.after.ensures
    (parts_err c.args.outline.now _ c.args.file.now c.parts-part-items.result.now c.loop-part.part-index c.in-Err.fault.written _ _ _ _
    c.requires c.parts-part-items.ensures.value
    c.loop-part-test.true c.loop-part.invariant c.in-Err.ensures)

pub loop-part-preserved : goal.loop-part-preserved
loop-part-preserved g c =
    let f = bytes_in_parts c.args.outline.now (map (λ content. content.now) c.args.contents.now) c.args.file.now in
    let parts = c.parts-part-items.result.now in
    let i = c.loop-part.part-index in
    subst (λ (s : List ℕ). Appends (g.W.Write.contents c.args.writer.now) (g.W.Write.contents c.write_part.new.writer) s)
    (sym (flat_more f parts i _ c.loop-part-test.true (get_or_default parts i _ _ c.loop-part-test.true)))
    (Appends-trans _ _ _ (flat_map f (take i parts)) _ c.loop-part.invariant c.in-Ok.ensures)

pub returns : goal.returns
returns g c =
    let all = ap (flat_map (bytes_in_parts c.args.outline.now _ c.args.file.now))
    (take_all c.loop-part.part-index c.parts-part-items.result.now c.loop-part-test.false) in
    subst (λ (s : List ℕ). Appends (g.W.Write.contents c.args.writer.now) (g.W.Write.contents c.loop-part.writer) s)
    (all ∙ joined_parts c.args.outline.now _ c.args.file.now c.parts-part-items.result.now c.parts-part-items.ensures.value)
    c.loop-part.invariant
