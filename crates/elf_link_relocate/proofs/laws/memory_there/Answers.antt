use Rattle.elf_link_relocate.proofs.MemoryLaws.{memory_there}
use Rattle.elf_link_relocate.proofs.laws.memory_there.Goals as goal

pub returns : goal.returns
returns c = memory_there
