use Rattle.elf_object_file.proofs.ObjectFile.{one_written, written_accepted, written_denotes_object, written_is_bytes}
use Rattle.elf_object_file.proofs.ObjectFile.{written_keeps_object_rules, written_read}
use Rattle.elf_object_file.proofs.laws.written_object.Goals as goal

pub returns : goal.returns
returns c = record {
  bytes = written_is_bytes;
  accepted = written_accepted;
  read = written_read;
  kept = written_keeps_object_rules;
  denotes =
      written_denotes_object;
  one = one_written;
}
