use Rattle.elf_link_relocate.proofs.Memories.{one_byte}
use Rattle.elf_link_relocate.proofs.laws.one_byte.Goals as goal

pub returns : goal.returns
returns c = one_byte
