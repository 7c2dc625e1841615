use Rattle.std.proofs.Common.{sym}
use Rattle.elf_table_lists.proofs.EntryLists.{length_relocations}
use Rattle.elf_table_lists.proofs.relocations.Relocs.len.Goals as goal

pub returns : goal.returns
returns c = rw (← c.self.view_is) (rw c.relocation_count.ensures (sym (length_relocations _ _ _)))
