use Rattle.elf_tool.proofs.SaysSome.{some_map}
use Rattle.elf_tool_link.proofs.OneMap.{one_map}
use Rattle.elf_tool.proofs.laws.one_map.Goals as goal

pub returns : goal.returns
returns c = record { some = some_map; one = one_map }
