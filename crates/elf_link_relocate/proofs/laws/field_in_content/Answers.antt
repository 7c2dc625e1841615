use Rattle.elf_link_relocate.proofs.MemoryLaws.{field_in_content}
use Rattle.elf_link_relocate.proofs.laws.field_in_content.Goals as goal

pub returns : goal.returns
returns c = field_in_content
