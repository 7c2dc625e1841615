-- Each part that is copied follows the earlier ones (`parts_more`), so at the end all bytes are written (`parts_all`), and these represent
-- the image. If a part fails, a beginning of all is written (`parts_failed`). A read that failed is at a byte of a part that comes from the
-- source (`parts_read`).
use Rattle.std.proofs.Common.{◌∙◌}
use Rattle.elf_image_outline.proofs.Theorem.{joined_is_image}
use Rattle.elf_image_outline.proofs.PartsOut.{failed_fits, parts_all, parts_after, parts_failed, parts_more, parts_read}
use Rattle.elf_image_outline.proofs.copying.copy_image.Goals as goal

pub returns-in-Err-clause-copies : goal.returns-in-Err-clause-copies
returns-in-Err-clause-copies g c =
    let before = c.loop-part.invariant in
    rw c.after.ensures
    (parts_failed c.args.outline.now c.parts-part-items.result.now c.loop-part.part-index _ _ _ _ _ _ c.in-Err.fault c.prove_stands.ensures
    c.parts-part-items.ensures.value
    c.loop-part-test.true before.kept before.out c.in-Err.ensures.copies)

pub returns-in-Err-clause-image : goal.returns-in-Err-clause-image
returns-in-Err-clause-image g c b known = joined_is_image _ (c.requires.of b known)

pub loop-part-preserved : goal.loop-part-preserved
loop-part-preserved g c =
    let before = c.loop-part.invariant in
    let went = c.in-Ok.ensures in
    record {
      kept = went.kept ∙ before.kept;
      failures = went.failures ∙ before.failures;
      out = parts_more c.args.outline.now c.parts-part-items.result.now c.loop-part.part-index _ _ _ _ _ _ c.prove_stands.ensures
          c.parts-part-items.ensures.value
          c.loop-part-test.true before.kept before.out went.copies;
    }

pub returns-clause-image : goal.returns-clause-image
returns-clause-image g c b known = joined_is_image _ (c.requires.of b known)

pub after-requires : goal.after-requires
after-requires g c =
    failed_fits c.args.outline.now c.parts-part-items.result.now c.loop-part.part-index _ _ _ _ _ c.in-Err.fault c.prove_stands.ensures
    c.parts-part-items.ensures.value
    c.loop-part-test.true c.in-Err.ensures.copies

pub returns-in-Err-clause-after : goal.returns-in-Err-clause-after
returns-in-Err-clause-after g c =
    rw c.after.ensures
    (parts_after _ c.args.outline.now c.parts-part-items.result.now c.loop-part.part-index _ c.in-Err.fault c.prove_stands.ensures
    c.parts-part-items.ensures.value
    c.loop-part-test.true c.in-Err.ensures.after)

pub returns-clause-copies : goal.returns-clause-copies
returns-clause-copies g c =
    parts_all c.args.outline.now c.parts-part-items.result.now c.loop-part.part-index _ _ _ c.prove_stands.ensures
    c.parts-part-items.ensures.value
    c.loop-part-test.false c.loop-part.invariant.out

pub returns-in-Err-clause-reads : goal.returns-in-Err-clause-reads
returns-in-Err-clause-reads g c =
    rw c.after.ensures
    (parts_read _ c.args.outline.now c.parts-part-items.result.now c.loop-part.part-index _ c.in-Err.fault c.parts-part-items.ensures.value
    c.loop-part-test.true c.in-Err.ensures.after c.in-Err.ensures.reads)
