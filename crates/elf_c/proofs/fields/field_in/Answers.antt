-- The first fields are not all, as long as the byte is after them: so there is one more (`some_left`). The loop ends at the field that has
-- the byte.
use Rattle.std.proofs.Common.{arith, ◌+◌, ◌≤◌, take}
use Rattle.elf_field.specs.Record.{width_of}
use Rattle.elf_c.proofs.FieldWidths.{some_left, width_more, width_part}
use Rattle.elf_c.proofs.fields.field_in.Goals as goal

pub loop-start-init : goal.loop-start-init
loop-start-init c = record {
  there = some_left c.args.widths.now 0 c.args.at (omega arith) c.requires.inside;
  ends = omega arith;
  before = omega arith;
}

pub overflow_add-start : goal.overflow_add-start
overflow_add-start c =
    let ws = c.args.widths.now in
    let k = c.loop-start.k in
    let inv = c.loop-start.invariant in
    omega (arith, width_more ws k inv.there, width_part ws (k + 1), inv.ends, c.requires.short)

pub loop-start-preserved : goal.loop-start-preserved
loop-start-preserved c =
    let ws = c.args.widths.now in
    let k = c.loop-start.k in
    let inv = c.loop-start.invariant in
    let more = width_more ws k inv.there in
    let passed : width_of (take (k + 1) ws) ≤ c.args.at = omega (arith, more, inv.ends, c.loop-start-test.true) in
    record {
      there = some_left ws (k + 1) c.args.at passed c.requires.inside;
      ends = omega (arith, more, inv.ends);
      before = omega (arith, c.loop-start-test.true);
    }
