-- Block by block: what is copied so far is the beginning of the range. If a call fails, just this much is written.
use Rattle.std.proofs.Common.{◌≡◌, ◌+◌, ◌-◌, drop, length, take, ◌∙◌, arith}
use Rattle.std.proofs.lemmas.List.{length-take-le}
use Rattle.elf_image_outline.proofs.PartsOut.{copies_after, out_more, range_more, range_splits}
use Rattle.elf_image_outline.proofs.copying.copy_range.Goals as goal

pub loop-done-preserved : goal.loop-done-preserved
loop-done-preserved g c =
    let before = c.loop-done.invariant in
    let done = c.loop-done.done in
    let size = c.min-size.result in
    let long : length (take size c.loop-done.block) ≡ size = length-take-le size c.loop-done.block (omega arith) in
    let went = rw long at c.in-Ok.ensures.copies in
    record {
      within = omega arith;
      kept = c.in-Ok.ensures.kept ∙ before.kept;
      failures = c.in-Ok.ensures.failures ∙ before.failures;
      out = out_more _ _ _ _ _ done size (λ b. take done (drop c.args.start b)) (λ b. take size (drop (c.args.start + done) b))
          (λ b. take (done + size) (drop c.args.start b))
          before.kept before.out went (λ b. range_more b c.args.start done size);
    }

pub returns-in-Err-clause-copies : goal.returns-in-Err-clause-copies
returns-in-Err-clause-copies g c =
    let before = c.loop-done.invariant in
    let done = c.loop-done.done in
    let size = c.min-size.result in
    let long : length (take size c.loop-done.block) ≡ size = length-take-le size c.loop-done.block (omega arith) in
    let went = rw long at c.in-Err.ensures.copies in
    rw c.after.ensures
    (copies_after _ _ _ _ _ done size c.args.len (λ b. take done (drop c.args.start b)) (λ b. take size (drop (c.args.start + done) b))
    (λ b. take (c.args.len - (done + size)) (drop (c.args.start + (done + size)) b))
    (λ b. take c.args.len (drop c.args.start b)) c.in-Err.fault
    before.kept (omega arith) before.out went (λ b. range_splits b c.args.start done size c.args.len (omega arith)))
