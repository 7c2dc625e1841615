use Rattle.elf_link_relocate.proofs.MemoryLaws.{memory_zero}
use Rattle.elf_link_relocate.proofs.laws.memory_zero.Goals as goal

pub returns : goal.returns
returns c = memory_zero
