use Rattle.elf_link_map.proofs.Paged.{are_paged}
use Rattle.elf_link_map.proofs.laws.are_paged.Goals as goal

pub returns : goal.returns
returns c = are_paged
