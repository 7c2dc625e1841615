-- The slots in use hold the extents of lower index that hold a byte, each with its index. By cases on whether the next extent holds one: it
-- is a slot more (`members_more`, `held_then`), or changes nothing (`members_skip`, `held_past`). At the end these are the members of all
-- extents.
use Rattle.std.proofs.Common.{◌≤◌, ◌<◌, ◌≡◌, ◌+◌, ℕ, ap, arith, filter, length, map, refl, subst, sym, take, ◌∙◌}
use Rattle.std.proofs.lemmas.List.{take_all}
use Rattle.elf_extent.specs.Extent.{holds_any, AreMembers}
use Rattle.elf_extent.proofs.Public.{members_more, members_none, members_skip}
use Rattle.elf_image_rules.specs.ValidatedRecords.{file_extents}
use Rattle.elf_c_parts.specs.declared.parts.Part.{Part}
use Rattle.elf_c_parts.specs.Slots.{member_of_part}
use Rattle.elf_c_parts.proofs.Slots.{held_past, held_then, map_more}
use Rattle.elf_c_parts.proofs.parts.put_members.Goals.{then-extent-gt0, else-extent-gt0}
use Rattle.elf_c_parts.proofs.parts.put_members.Goals as goal

pub loop-index-init : goal.loop-index-init
loop-index-init c = record {
  few = omega arith;
  members = members_none (file_extents c.args.extents.now);
  held = refl;
}

pub loop-index-preserved : goal.loop-index-preserved
loop-index-preserved c =
    let es = file_extents c.args.extents.now in
    let i = c.loop-index.index in
    let k = c.loop-index.count in
    let room = c.loop-index.room in
    let within : i < length es = omega arith in
    let few = c.loop-index.invariant.few in
    let e = c.at-extent.result in
    let read = c.at-extent.ensures in
    elim c.if-extent-gt0.branch [
      | then-extent-gt0 w ↦
          let part : Part = record { start = e.start; len = e.len; owner = i } in
          let for_it : k < length room = omega arith in
          rw (w.room-is, w.count-is) (record {
            few = omega arith;
            members = subst (AreMembers es (i + 1)) (sym (map_more member_of_part room k part for_it))
                (members_more es i _ e read w.if-extent-gt0.true c.loop-index.invariant.members);
            held = held_then es room i k e part read within w.if-extent-gt0.true refl for_it c.loop-index.invariant.held;
          })
      | else-extent-gt0 w ↦
          let none = w.if-extent-gt0.false in
          rw (w.room-is, w.count-is) (record {
            few = omega arith;
            members = members_skip es i _ e read (omega arith) c.loop-index.invariant.members;
            held = c.loop-index.invariant.held ∙ sym (held_past es i e read within (λ some. omega arith));
          })
    ]

pub returns-clause-members : goal.returns-clause-members
returns-clause-members c =
    let es = file_extents c.args.extents.now in
    let end : c.loop-index.index ≡ length es = omega arith in
    subst (λ (n : ℕ). AreMembers es n (map member_of_part (take c.loop-index.count c.loop-index.room))) end c.loop-index.invariant.members

pub returns-clause-held : goal.returns-clause-held
returns-clause-held c =
    let es = file_extents c.args.extents.now in
    let end : length es ≤ c.loop-index.index = omega arith in
    c.loop-index.invariant.held ∙ ap (filter holds_any) (take_all c.loop-index.index es end)
