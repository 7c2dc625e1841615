-- One pass of the loop keeps its invariant: the members of the groups so far are marked, and the lowest wrong one is found. It goes by
-- cases on whether the section is a group (`GroupMembers`). After the last section, this is the lowest one of all.
use Rattle.std.proofs.Common.{◌≡◌, length, arith}
use Rattle.elf_object_reader.specs.FileRules.{sections_of_file}
use Rattle.elf_object_reader.proofs.FileRules.{marks_passed, wrong_next, wrong_passed}
use Rattle.elf_object_reader.proofs.object_file.ObjectFile.lowest_wrong_group_member.Goals.{then-section-eq-SHT_GROUP}
use Rattle.elf_object_reader.proofs.object_file.ObjectFile.lowest_wrong_group_member.Goals.{else-section-eq-SHT_GROUP}
use Rattle.elf_object_reader.proofs.object_file.ObjectFile.lowest_wrong_group_member.Goals as goal

pub loop-i-preserved : goal.loop-i-preserved
loop-i-preserved c =
    let f = sections_of_file c.args.self.now in
    let n = length c.args.self.now.image.now.sections in
    let own = c.section-section.ensures in
    let header = rw (own.file, own.index) at c.section-section.result.own_header in
    elim c.if-section-eq-SHT_GROUP.branch [
      | then-section-eq-SHT_GROUP w ↦ (
          let typed = rw header at w.if-section-eq-SHT_GROUP.true in
          record {
            marked = rw w.marks-is (rw (own.file, own.index) at w.mark_members.ensures);
            lowest = rw w.lowest-is
                (rw w.lower-lowest.ensures (wrong_next c.args.self.now.left f c.loop-i.i _ _ typed c.loop-i.invariant.lowest
                (rw (own.file, own.index) at w.lowest_wrong_member.ensures)));
          })
      | else-section-eq-SHT_GROUP w ↦ (
          let other = rw header at w.if-section-eq-SHT_GROUP.false in
          record {
            marked = rw w.marks-is (marks_passed f n c.loop-i.i c.loop-i.marks.items other c.loop-i.invariant.marked);
            lowest = rw w.lowest-is (wrong_passed c.args.self.now.left f c.loop-i.i c.loop-i.lowest other c.loop-i.invariant.lowest);
          })
    ]

pub returns : goal.returns
returns c =
    let end : c.loop-i.i ≡ length c.args.self.now.image.now.sections = omega arith in
    rw end at c.loop-i.invariant.lowest
