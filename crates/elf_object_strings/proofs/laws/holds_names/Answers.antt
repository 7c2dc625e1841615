use Rattle.elf_object_strings.proofs.Public.{holds_names}
use Rattle.elf_object_strings.proofs.laws.holds_names.Goals as goal

pub returns : goal.returns
returns c = holds_names
