use Rattle.elf_tool.proofs.FileLinks.{executable}
use Rattle.elf_tool.proofs.laws.executable.Goals as goal

pub returns : goal.returns
returns c = executable
