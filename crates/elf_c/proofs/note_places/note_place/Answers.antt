-- The note at the byte is the one whose end is after it; the notes before it end at it or before it.
use Rattle.std.proofs.Common.{arith, refl, sym, ◌∙◌}
use Rattle.elf_c.proofs.NotePlaces.{none_cut, none_left, note_found}
use Rattle.elf_c.proofs.ReadEntries.{note_end_above, note_offset_after, note_offset_zero}
use Rattle.elf_c.proofs.note_places.note_place.Goals as goal

pub loop-entry-init : goal.loop-entry-init
loop-entry-init c = record {
  place = sym (note_offset_zero c.args.order c.args.content.now 0);
  begins = omega arith;
  few = omega arith;
  within = omega arith;
}

pub loop-entry-preserved : goal.loop-entry-preserved
loop-entry-preserved c =
    let o = c.args.order in
    let t = c.args.content.now in
    let above = note_end_above o t c.loop-entry.at in
    let (ends, is) = c.in-Some.ensures in
    record {
      place = is ∙ note_offset_after o t c.loop-entry.at c.loop-entry.entry c.loop-entry.invariant.place;
      begins = (let past = c.if-inner-end.false in omega arith);
      few = (let few = c.loop-entry.invariant.few in omega arith);
      within = omega arith;
    }

pub returns-in_default : goal.returns-in_default
returns-in_default c =
    none_cut c.args.order c.args.content.now c.args.start c.args.offset c.loop-entry.entry c.loop-entry.at c.loop-entry.invariant.place
    (let begins = c.loop-entry.invariant.begins in omega arith) c.in_default.ensures

pub returns : goal.returns
returns c =
    let inv = c.loop-entry.invariant in
    none_left c.args.order c.args.content.now c.args.start c.args.offset c.loop-entry.entry c.loop-entry.at inv.place
    (let begins = c.loop-entry.invariant.begins in omega arith) (let all = c.loop-entry-test.false in omega arith)

pub returns-then-inner-end : goal.returns-then-inner-end
returns-then-inner-end c =
    let (ends, is) = c.in-Some.ensures in
    note_found c.args.order c.args.content.now c.args.start c.args.offset c.loop-entry.entry c.loop-entry.at _ c.loop-entry.invariant.place
    (let begins = c.loop-entry.invariant.begins in omega arith) ends refl refl (omega arith) c.note_field.ensures
