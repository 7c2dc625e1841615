use Rattle.std.proofs.Common.{length}
use Rattle.elf_extent.specs.Extent.{IsLowest}
use Rattle.elf_object_reader.specs.FileRules.{IsMemberBefore, wrong_group_member_before, AreMarks, sections_of_file}
use Rattle.elf_object_reader.proofs.object_file.ObjectFile.lowest_wrong_group_member.Given as goal

abbrev pub invariant-loop-i : goal.invariant-loop-i
invariant-loop-i l =
    let f = sections_of_file l.self in
    record {
      marked : AreMarks (length l.self.image.now.sections) (IsMemberBefore f l.i) l.marks.items;
      lowest : IsLowest (wrong_group_member_before l.self.left f l.i) l.lowest;
    }
