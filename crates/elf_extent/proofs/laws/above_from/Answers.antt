use Rattle.elf_extent.proofs.Public.{above_from}
use Rattle.elf_extent.proofs.laws.above_from.Goals as goal

pub returns : goal.returns
returns c = above_from
