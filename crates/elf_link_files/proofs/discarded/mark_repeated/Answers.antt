use Rattle.std.proofs.Common.{Bool, map, rules}
use Rattle.std.specs.Global.{Vec}
use Rattle.elf_link_files.proofs.RepeatedSignatures.{marks_next, marks_past, not_repeated, repeated}
use Rattle.elf_link_files.proofs.discarded.mark_repeated.Goals as goal
use Rattle.elf_link_files.proofs.discarded.mark_repeated.Goals.{then-firsts-k, else-firsts-k}

pub loop-k-preserved : goal.loop-k-preserved
loop-k-preserved c =
    let fs = c.args.objects.now in
    let groups = c.args.groups.now in
    let firsts = c.args.firsts.now in
    let k = c.loop-k.k in
    let lt = c.loop-k-test.true in
    elim c.if-firsts-k.branch [
      | then-firsts-k w ↦ rw w.marks-is (marks_next fs groups k (map (λ (row : Vec Bool). row.items) c.loop-k.marks.items) _
          (repeated fs groups firsts k c.requires.groups c.requires.firsts lt (search rules)) (c.requires.groups.each k lt).0
          w.mark_group.ensures c.loop-k.invariant)
      | else-firsts-k w ↦ rw w.marks-is (marks_past fs groups k (map (λ (row : Vec Bool). row.items) c.loop-k.marks.items)
          (not_repeated fs groups firsts k c.requires.groups c.requires.firsts lt (search rules)) c.loop-k.invariant)
    ]
