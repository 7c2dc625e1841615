use Rattle.elf_tool.proofs.SaysSome.{some_show}
use Rattle.elf_tool_show.proofs.OneShow.{one_show}
use Rattle.elf_tool.proofs.laws.one_show.Goals as goal

pub returns : goal.returns
returns c = record { some = some_show; one = one_show }
