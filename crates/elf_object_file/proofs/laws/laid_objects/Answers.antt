use Rattle.elf_object_file.proofs.ObjectFile.{empty_object_laid, one_section_laid}
use Rattle.elf_object_file.proofs.laws.laid_objects.Goals as goal

pub returns : goal.returns
returns c = record { empty = empty_object_laid; one = one_section_laid }
