use Rattle.elf_image_type.proofs.Public.{length-relocatable_file, relocatable_accepted, relocatable_is_bytes, relocatable_read}
use Rattle.elf_image_type.proofs.laws.written_relocatable_file.Goals as goal

pub returns : goal.returns
returns c = record {
  bytes = relocatable_is_bytes;
  len = length-relocatable_file;
  accepted = relocatable_accepted;
  read = relocatable_read;
}
