use Rattle.elf_exec.proofs.ExecLaws.{one_exec}
use Rattle.elf_exec.proofs.laws.one_exec.Goals as goal

pub returns : goal.returns
returns c = one_exec
