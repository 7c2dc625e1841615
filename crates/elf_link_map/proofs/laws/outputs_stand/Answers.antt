use Rattle.elf_link_map.proofs.Standing.{outputs_stand}
use Rattle.elf_link_map.proofs.laws.outputs_stand.Goals as goal

pub returns : goal.returns
returns c = outputs_stand
