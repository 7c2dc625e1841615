use Rattle.elf_exec.proofs.ExecLaws.{some_exec}
use Rattle.elf_exec.proofs.laws.some_exec.Goals as goal

pub returns : goal.returns
returns c = some_exec
