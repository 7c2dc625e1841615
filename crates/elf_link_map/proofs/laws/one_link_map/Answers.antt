use Rattle.elf_link_map.proofs.OneMap.{one_link_map}
use Rattle.elf_link_map.proofs.SomeLinkMap.{some_link_map}
use Rattle.elf_link_map.proofs.laws.one_link_map.Goals as goal

pub returns : goal.returns
returns c = record { some = some_link_map; one = one_link_map }
