use Rattle.elf_link_relocate.proofs.Memories.{any_options}
use Rattle.elf_link_relocate.proofs.laws.any_options.Goals as goal

pub returns : goal.returns
returns c = any_options
