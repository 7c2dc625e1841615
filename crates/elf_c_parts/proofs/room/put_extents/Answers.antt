-- The slots in use hold the extents of lower index that hold a byte. By cases on whether the next extent holds one: it is a slot more
-- (`gathered_one`), or changes nothing (`gathered_none`). At the end these are all extents that hold a byte.
use Rattle.std.proofs.Common.{◌≤◌, ◌<◌, ap, arith, filter, length, refl, sym, ◌∙◌}
use Rattle.std.proofs.lemmas.List.{take_all}
use Rattle.elf_extent.specs.Extent.{holds_any}
use Rattle.elf_image_rules.specs.ValidatedRecords.{file_extents}
use Rattle.elf_c_parts.specs.declared.room.Slot.{Slot}
use Rattle.elf_c_parts.proofs.Slots.{gathered_none, gathered_one}
use Rattle.elf_c_parts.proofs.room.put_extents.Goals.{then-extent-gt0, else-extent-gt0}
use Rattle.elf_c_parts.proofs.room.put_extents.Goals as goal

pub loop-index-preserved : goal.loop-index-preserved
loop-index-preserved c =
    let es = file_extents c.args.extents.now in
    let i = c.loop-index.index in
    let within : i < length es = omega arith in
    let few = c.loop-index.invariant.few in
    let held = c.loop-index.invariant.held in
    let e = c.at-extent.result in
    elim c.if-extent-gt0.branch [
      | then-extent-gt0 w ↦ record {
        few = omega (arith, w.count-is);
        held =
            let slot : Slot = record { start = e.start; len = e.len } in
            let next = gathered_one es c.loop-index.room i c.loop-index.count e slot c.at-extent.ensures within w.if-extent-gt0.true refl
            (omega arith) held in
            rw (w.room-is, w.count-is) next;
      }
      | else-extent-gt0 w ↦ record {
        few = omega (arith, w.count-is);
        held =
            let same = gathered_none es i e c.at-extent.ensures within (λ some. let none = w.if-extent-gt0.false in omega arith) in
            rw (w.room-is, w.count-is) (held ∙ sym same);
      }
    ]

pub returns-clause-held : goal.returns-clause-held
returns-clause-held c =
    let es = file_extents c.args.extents.now in
    let end : length es ≤ c.loop-index.index = omega arith in
    c.loop-index.invariant.held ∙ ap (filter holds_any) (take_all c.loop-index.index es end)
