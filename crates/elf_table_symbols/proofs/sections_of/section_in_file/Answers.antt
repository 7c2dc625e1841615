use Rattle.std.proofs.Common.{◌<◌, ℕ, ◌∙◌, subst, sym}
use Rattle.elf_image_rules.specs.ValidatedRecords.{file_of}
use Rattle.elf_table_symbols.proofs.ValidatedSections.{count_read, section_read}
use Rattle.elf_table_symbols.proofs.sections_of.section_in_file.Goals as goal

pub section-requires : goal.section-requires
section-requires c = subst (λ (n : ℕ). c.args.i < n) (count_read (file_of c.args.records.now)) c.requires

pub returns : goal.returns
returns c = c.section.ensures ∙ sym (section_read (file_of c.args.records.now) c.args.i c.requires)
