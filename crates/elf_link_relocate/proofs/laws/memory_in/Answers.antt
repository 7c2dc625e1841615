use Rattle.elf_link_relocate.proofs.MemoryLaws.{memory_in}
use Rattle.elf_link_relocate.proofs.laws.memory_in.Goals as goal

pub returns : goal.returns
returns c = memory_in
