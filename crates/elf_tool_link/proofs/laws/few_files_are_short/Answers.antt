use Rattle.elf_tool_link.proofs.FewFiles.{few_files_short}
use Rattle.elf_tool_link.proofs.laws.few_files_are_short.Goals as goal

pub returns : goal.returns
returns c = few_files_short
