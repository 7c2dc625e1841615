-- Each output ends below 2^64, and the next one begins at that end or after it. So neither the end of an output nor the gap to the next one
-- overflows.
use Rattle.std.proofs.Common.{◌<◌, ◌-◌, length, arith}
use Rattle.tests_link.proofs.Outputs.{address_is, length_is, many_outputs}
use Rattle.tests_link.proofs.standing.gaps.Goals as goal

pub overflow_add-end : goal.overflow_add-end
overflow_add-end c =
    let m = c.args.link.now in
    let os = c.outputs-outputs.result.now in
    let same = c.outputs-outputs.ensures in
    let many = many_outputs m os same in
    let before : c.loop-k.k - 1 < length os = omega (arith, c.loop-k-test.true) in
    let stand = c.outputs_stand.ensures c.args.options.now c.args.objects.now m c.requires in
    let ends = stand.within (c.loop-k.k - 1) (omega arith) in
    let begin = address_is m os (c.loop-k.k - 1) c.index-outputs-k.result same before in
    let long = length_is m os (c.loop-k.k - 1) c.index-outputs-k-in-loop-k.result same before in
    omega arith

pub overflow_sub-gap : goal.overflow_sub-gap
overflow_sub-gap c =
    let m = c.args.link.now in
    let os = c.outputs-outputs.result.now in
    let same = c.outputs-outputs.ensures in
    let many = many_outputs m os same in
    let here = c.loop-k-test.true in
    let from = c.loop-k.auto.k in
    let before : c.loop-k.k - 1 < length os = omega arith in
    let stand = c.outputs_stand.ensures c.args.options.now c.args.objects.now m c.requires in
    let apart = stand.apart (c.loop-k.k - 1) c.loop-k.k (omega arith) (omega arith) in
    let begin = address_is m os (c.loop-k.k - 1) c.index-outputs-k.result same before in
    let long = length_is m os (c.loop-k.k - 1) c.index-outputs-k-in-loop-k.result same before in
    let next = address_is m os c.loop-k.k c.index-outputs-k-in-loop-k-2.result same here in
    omega arith
