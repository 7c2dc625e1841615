use Rattle.elf_object_file.proofs.ObjectFile.{denoted_object}
use Rattle.elf_object_file.proofs.laws.denoted_object.Goals as goal

pub returns : goal.returns
returns c = denoted_object
