use Rattle.elf_image_rules.proofs.Public.{one_fault}
use Rattle.elf_table_lists.specs.Notes.{note_section_rules}
use Rattle.elf_table_symbols.proofs.Public.{its_file}
use Rattle.elf_table_symbols.specs.Sections.{sections_of}
use Rattle.std.proofs.Common.{rules}
use Rattle.elf_table_lists.proofs.notes.Notes.new.Goals as goal

pub returns-in_err-validate_note_section-clause-validated : goal.returns-in_err-validate_note_section-clause-validated
returns-in_err-validate_note_section-clause-validated c = search rules

pub returns-in_err-validate_note_section-clause-file : goal.returns-in_err-validate_note_section-clause-file
returns-in_err-validate_note_section-clause-file c =
    let f = sections_of c.args.image.now in (
      f,
      its_file c.args.image.now c.prove_stands.ensures,
      (one_fault (note_section_rules f c.args.i), returns-in_err-validate_note_section-clause-validated c),
    )

pub returns-clause-validated : goal.returns-clause-validated
returns-clause-validated c = search rules

pub returns-clause-file : goal.returns-clause-file
returns-clause-file c =
    let f = sections_of c.args.image.now in
    (f, its_file c.args.image.now c.prove_stands.ensures, (one_fault (note_section_rules f c.args.i), returns-clause-validated c))
