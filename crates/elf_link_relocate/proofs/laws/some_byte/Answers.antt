use Rattle.elf_link_relocate.proofs.MemoryLaws.{some_byte}
use Rattle.elf_link_relocate.proofs.laws.some_byte.Goals as goal

pub returns : goal.returns
returns c = some_byte
