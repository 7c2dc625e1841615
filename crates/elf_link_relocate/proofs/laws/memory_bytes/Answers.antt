use Rattle.elf_link_relocate.proofs.MemoryLaws.{memory_bytes}
use Rattle.elf_link_relocate.proofs.laws.memory_bytes.Goals as goal

pub returns : goal.returns
returns c = memory_bytes
