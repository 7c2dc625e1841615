use Rattle.std.proofs.Common.{sym}
use Rattle.elf_table_lists.proofs.EntryLists.{length_dynamic}
use Rattle.elf_table_lists.proofs.dynamic.Dynamic.len.Goals as goal

pub returns : goal.returns
returns c = rw (← c.self.view_is) (sym (length_dynamic _ _ _))
