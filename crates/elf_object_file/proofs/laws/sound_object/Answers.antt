use Rattle.elf_object_file.proofs.ObjectFile.{sound_object}
use Rattle.elf_object_file.proofs.laws.sound_object.Goals as goal

pub returns : goal.returns
returns c = sound_object
