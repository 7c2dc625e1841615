use Rattle.std.proofs.lemmas.Option.{slice_get-get_or}
use Rattle.elf_extent.proofs.ExtentLists.{held_more, held_skip, members_more, members_skip}
use Rattle.elf_extent.proofs.sorted.members_in_order.Goals.{then-extent-gt0+in-Ok, else-extent-gt0}
use Rattle.elf_extent.proofs.sorted.members_in_order.Goals as goal

pub loop-index-preserved : goal.loop-index-preserved
loop-index-preserved c =
    let es = c.args.extents.now in
    let n = c.loop-index.index in
    elim c.if-extent-gt0.branch [
      | then-extent-gt0+in-Ok w ↦
          rw (w.members-is, w.in-Ok.ensures.items) (record {
            members = members_more es n _ _ (slice_get-get_or es n _ c.loop-index-test.true)
                w.if-extent-gt0.true c.loop-index.invariant.members;
            held = held_more es n _ _ (slice_get-get_or es n _ c.loop-index-test.true)
                w.if-extent-gt0.true c.loop-index.invariant.held;
          })
      | else-extent-gt0 w ↦
          rw w.members-is (record {
            members = members_skip es n _ _ (slice_get-get_or es n _ c.loop-index-test.true)
                w.if-extent-gt0.false c.loop-index.invariant.members;
            held = held_skip es n _ _ (slice_get-get_or es n _ c.loop-index-test.true)
                w.if-extent-gt0.false c.loop-index.invariant.held;
          })
    ]
