use Rattle.elf_extent.proofs.Public.{above_earlier}
use Rattle.elf_extent.proofs.laws.above_earlier.Goals as goal

pub returns : goal.returns
returns c = above_earlier
