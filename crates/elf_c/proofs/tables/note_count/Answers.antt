-- The notes before the count are whole, and the one there is cut (`whole_counted`). The place grows by each note, so the loop ends.
use Rattle.std.proofs.Common.{◌≤◌, ℕ, arith, below_more, length, subst, sym, ◌∙◌, ◌<◌}
use Rattle.elf_table_lists.specs.Notes.{note_end, note_offset}
use Rattle.elf_c.proofs.ReadEntries.{note_end_above, note_offset_after, note_offset_zero}
use Rattle.elf_c.proofs.WholeNotes.{whole_counted}
use Rattle.elf_c.proofs.tables.note_count.Goals as goal

pub loop-end-init : goal.loop-end-init
loop-end-init c = record {
  place = sym (note_offset_zero c.args.order c.args.content.now 0);
  whole = λ k none. absurd (omega arith);
  few = omega arith;
  within = omega arith;
}

pub loop-end-smaller : goal.loop-end-smaller
loop-end-smaller c =
    let above = note_end_above c.args.order c.args.content.now c.loop-end.at in
    let (ends, is) = c.in-Some.ensures in
    omega arith

pub loop-end-preserved : goal.loop-end-preserved
loop-end-preserved c =
    let o = c.args.order in
    let t = c.args.content.now in
    let above = note_end_above o t c.loop-end.at in
    let (ends, is) = c.in-Some.ensures in
    let place = c.loop-end.invariant.place in
    record {
      place = is ∙ note_offset_after o t c.loop-end.at c.loop-end.count place;
      whole = below_more (λ (k : ℕ). note_end o t (note_offset o t 0 k) ≤ length t) c.loop-end.count c.loop-end.invariant.whole
          (subst (λ (x : ℕ). note_end o t x ≤ length t) place ends);
      few = (let few = c.loop-end.invariant.few in omega arith);
      within = omega arith;
    }

pub returns : goal.returns
returns c =
    let o = c.args.order in
    let t = c.args.content.now in
    let cut : length t < note_end o t c.loop-end.at = (let past = c.in_default.ensures in omega arith) in
    whole_counted o t c.loop-end.count c.loop-end.invariant.whole
    (subst (λ (x : ℕ). length t < note_end o t x) c.loop-end.invariant.place cut)
