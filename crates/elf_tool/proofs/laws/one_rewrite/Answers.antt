use Rattle.elf_tool.proofs.SaysSome.{some_rewrite}
use Rattle.elf_tool_rewrite.proofs.OneRewrite.{one_rewrite}
use Rattle.elf_tool.proofs.laws.one_rewrite.Goals as goal

pub returns : goal.returns
returns c = record { some = some_rewrite; one = one_rewrite }
