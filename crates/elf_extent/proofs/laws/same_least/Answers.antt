use Rattle.elf_extent.proofs.Public.{same_least}
use Rattle.elf_extent.proofs.laws.same_least.Goals as goal

pub returns : goal.returns
returns c = same_least
