use Rattle.std.proofs.Common.{arith}
use Rattle.elf_image_rules.proofs.Public.{FirstIn-handed}
use Rattle.elf_table_lists.proofs.NoteLists.{closed_notes, cut_fault, validated_more, none_validated, unclosed_fault, end_above}
use Rattle.elf_table_lists.proofs.notes.validate_notes.Goals as goal

pub loop-at-init : goal.loop-at-init
loop-at-init c = none_validated _ _

pub returns-in_err-end : goal.returns-in_err-end
returns-in_err-end c =
    FirstIn-handed _ _ _ (cut_fault _ _ _ _ _ _ c.loop-at.invariant c.loop-at-test.true c.in_err-end.ensures) c.from_residual.ensures.1

pub loop-at-smaller : goal.loop-at-smaller
loop-at-smaller c =
    let above = end_above c.args.order c.args.table.now c.loop-at.at in
    let end = c.in_ok-end.ensures in
    omega arith

pub loop-at-preserved : goal.loop-at-preserved
loop-at-preserved c =
    let end = c.in_ok-end.ensures in
    let whole = rw end.0 at end.1 in
    rw (c.or-unclosed.ensures, end.0) (validated_more _ _ _ _ _ c.loop-at.invariant whole c.unclosed_note_name.ensures)

pub returns-in-Some : goal.returns-in-Some
returns-in-Some c = rw c.new.ensures (unclosed_fault _ _ _ c.loop-at.at _ (rw c.in-Some.is at c.loop-at.invariant) c.loop-at-test.false)

pub returns-in-None : goal.returns-in-None
returns-in-None c = closed_notes _ _ _ c.loop-at.at (rw c.in-None.is at c.loop-at.invariant) c.loop-at-test.false
