use Rattle.elf_tool.proofs.SaysSome.{some_link}
use Rattle.elf_tool_link.proofs.OneLink.{one_link}
use Rattle.elf_tool.proofs.laws.one_link.Goals as goal

pub returns : goal.returns
returns c = record { some = some_link; one = one_link }
