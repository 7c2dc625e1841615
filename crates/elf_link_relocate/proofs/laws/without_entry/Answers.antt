use Rattle.elf_link_relocate.proofs.Memories.{without_entry}
use Rattle.elf_link_relocate.proofs.laws.without_entry.Goals as goal

pub returns : goal.returns
returns c = without_entry
