use Rattle.elf_link_map.proofs.Standing.{parts_apart}
use Rattle.elf_link_map.proofs.laws.parts_apart.Goals as goal

pub returns : goal.returns
returns c = parts_apart
