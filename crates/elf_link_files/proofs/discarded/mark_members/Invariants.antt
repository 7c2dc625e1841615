use Rattle.elf_link_files.specs.Files.{AreMembersMarked}
use Rattle.elf_link_files.proofs.discarded.mark_members.Given as goal

abbrev pub invariant-loop-member : goal.invariant-loop-member
invariant-loop-member l = AreMembersMarked l.fn.marks.items l.member-items l.member-index l.marks.items
