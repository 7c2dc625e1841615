use Rattle.std.proofs.Common.{arith, subst}
use Rattle.elf_object_strings.proofs.CommonEnd.{HaveEqualEnds, end_all, end_there}
use Rattle.elf_object_strings.proofs.sorting.equal_bytes.Goals as goal

pub returns-then-a-count : goal.returns-then-a-count
returns-then-a-count c = end_there _ _ _ c.loop-count.invariant (omega arith) (omega arith) c.if-a-count.true

pub returns : goal.returns
returns c =
    let all = c.loop-count.auto.count-end in
    let over = c.loop-count-test.false in
    end_all _ _ _ (subst (HaveEqualEnds c.args.a.now c.args.b.now) (omega arith) c.loop-count.invariant) (omega arith)
