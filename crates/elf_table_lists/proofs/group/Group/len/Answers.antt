use Rattle.std.proofs.Common.{sym}
use Rattle.elf_table_lists.proofs.EntryLists.{length_members}
use Rattle.elf_table_lists.proofs.group.Group.len.Goals as goal

pub returns : goal.returns
returns c = rw (← c.self.view_is) (rw c.member_count.ensures (sym (length_members _ _)))
