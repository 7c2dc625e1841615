use Rattle.elf_tool.proofs.SaysSome.{some_check}
use Rattle.elf_tool_check.proofs.SaysOne.{one_check}
use Rattle.elf_tool.proofs.laws.one_check.Goals as goal

pub returns : goal.returns
returns c = record { some = some_check; one = one_check }
