use Rattle.elf_exec.proofs.ExecLaws.{executable}
use Rattle.elf_exec.proofs.laws.executable.Goals as goal

pub returns : goal.returns
returns c = executable
