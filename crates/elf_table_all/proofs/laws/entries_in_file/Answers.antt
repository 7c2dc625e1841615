use Rattle.elf_table_lists.proofs.Public.{no_note_entry, note_entry, note_in_file}
use Rattle.elf_table_all.proofs.TableLinks.{dynamic_in_file, rel_in_file, rela_in_file, symbol_in_file, word_in_file}
use Rattle.elf_table_all.proofs.laws.entries_in_file.Goals as goal

pub returns : goal.returns
returns c = record {
  symbols = symbol_in_file;
  words = word_in_file;
  rela = rela_in_file;
  rel = rel_in_file;
  dynamic = dynamic_in_file;
  notes = λ o table k within. note_entry o table 0 k within;
  no_note = λ o table k past. no_note_entry o table 0 k past;
  note = note_in_file;
}
