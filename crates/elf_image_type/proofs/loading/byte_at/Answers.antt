-- The result is the byte at the offset of the joined parts. If the offset lies in the part at hand, it is the part's byte (`in_part`);
-- otherwise the offset is at or above that part's end (`parts_end`). The loop cannot end without such a part, because the offset is below
-- the length (`in_some_part`).
use Rattle.std.proofs.Common.{◌≤◌, ap, arith, length, map, take_all, ◌∙◌}
use Rattle.std.specs.List.{flat_map}
use Rattle.elf_image_outline.proofs.PartsOut.{bytes_in_parts}
use Rattle.elf_image_type.proofs.ImageLemmas.{in_part, in_some_part, part_at, parts_end}
use Rattle.elf_image_type.proofs.loading.byte_at.Goals as goal

pub overflow_sub-k : goal.overflow_sub-k
overflow_sub-k c =
    let start = (part_at c.args.outline.now _ c.args.file.now c.parts-part-items.result.now c.loop-part.part-index c.requires.sound
    c.parts-part-items.ensures.value
    c.loop-part-test.true).start in
    omega arith

pub part_byte-requires-clause-whole : goal.part_byte-requires-clause-whole
part_byte-requires-clause-whole c =
    (part_at c.args.outline.now _ c.args.file.now c.parts-part-items.result.now c.loop-part.part-index c.requires.sound
    c.parts-part-items.ensures.value
    c.loop-part-test.true).whole

pub returns-then-k-part : goal.returns-then-k-part
returns-then-k-part c =
    let start = (part_at c.args.outline.now _ c.args.file.now c.parts-part-items.result.now c.loop-part.part-index c.requires.sound
    c.parts-part-items.ensures.value
    c.loop-part-test.true).start in
    c.part_byte.ensures
    ∙ in_part c.args.outline.now _ c.args.file.now c.parts-part-items.result.now c.loop-part.part-index c.args.offset c.requires.sound
    c.parts-part-items.ensures.value
    c.loop-part-test.true (omega arith) c.if-k-part.true

pub loop-part-preserved : goal.loop-part-preserved
loop-part-preserved c =
    let start = (part_at c.args.outline.now _ c.args.file.now c.parts-part-items.result.now c.loop-part.part-index c.requires.sound
    c.parts-part-items.ensures.value
    c.loop-part-test.true).start in
    let end = parts_end c.args.outline.now _ c.args.file.now c.parts-part-items.result.now c.loop-part.part-index c.requires.sound
    c.parts-part-items.ensures.value
    c.loop-part-test.true in
    omega arith

pub returns : goal.returns
returns c =
    let ps = c.parts-part-items.result.now in
    let f = bytes_in_parts c.args.outline.now (map (λ content. content.now) c.args.contents.now) c.args.file.now in
    let all = ap (λ (qs : _). length (flat_map f qs)) (take_all c.loop-part.part-index ps c.loop-part-test.false) in
    let after : length (flat_map f ps) ≤ c.args.offset = omega arith in
    let end = in_some_part c.args.outline.now _ c.args.file.now ps c.args.offset c.requires.sound c.parts-part-items.ensures.value after in
    absurd (omega arith)
