use Rattle.std.proofs.Common.{sym}
use Rattle.elf_table_lists.proofs.EntryLists.{length_members, member_get}
use Rattle.elf_table_lists.proofs.group.Group.entry.Goals as goal

pub member-requires : goal.member-requires
member-requires c =
    let within = rw (← c.self.view_is) at c.requires in
    rw (length_members c.self.inside.order c.self.inside.words.now) at within

pub returns : goal.returns
returns c =
    let within = rw (← c.self.view_is) at c.requires in
    let below = rw (length_members c.self.inside.order c.self.inside.words.now) at within in
    rw (← c.self.view_is) (rw c.member.ensures (sym (member_get _ _ c.args.j below)))
