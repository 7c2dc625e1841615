use Rattle.std.proofs.Common.{◌∙◌, sym}
use Rattle.elf_image_rules.specs.ValidatedRecords.{file_of}
use Rattle.elf_table_symbols.proofs.ValidatedSections.{count_read}
use Rattle.elf_table_symbols.proofs.sections_of.count_in_file.Goals as goal

pub returns : goal.returns
returns c = c.section_count.ensures.count ∙ sym (count_read (file_of c.args.records.now))
