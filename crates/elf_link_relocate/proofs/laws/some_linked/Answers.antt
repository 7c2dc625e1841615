use Rattle.elf_link_relocate.proofs.MemoryLaws.{some_linked}
use Rattle.elf_link_relocate.proofs.laws.some_linked.Goals as goal

pub returns : goal.returns
returns c = some_linked
