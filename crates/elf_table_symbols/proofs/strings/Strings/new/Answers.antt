use Rattle.elf_image_rules.proofs.Public.{one_fault}
use Rattle.elf_table_symbols.proofs.FileSections.{its_file}
use Rattle.elf_table_symbols.specs.Sections.{sections_of}
use Rattle.elf_table_symbols.specs.Symbols.{string_table_rules}
use Rattle.std.proofs.Common.{rules}
use Rattle.elf_table_symbols.proofs.strings.Strings.new.Goals as goal

pub returns-in_err-validate_string_table-clause-validated : goal.returns-in_err-validate_string_table-clause-validated
returns-in_err-validate_string_table-clause-validated c = search rules

pub returns-in_err-validate_string_table-clause-file : goal.returns-in_err-validate_string_table-clause-file
returns-in_err-validate_string_table-clause-file c =
    let f = sections_of c.args.image.now in (
      f,
      its_file c.args.image.now c.prove_stands.ensures,
      (one_fault (string_table_rules f c.args.i), returns-in_err-validate_string_table-clause-validated c),
    )

pub returns-clause-validated : goal.returns-clause-validated
returns-clause-validated c = search rules

pub returns-clause-file : goal.returns-clause-file
returns-clause-file c =
    let f = sections_of c.args.image.now in
    (f, its_file c.args.image.now c.prove_stands.ensures, (one_fault (string_table_rules f c.args.i), returns-clause-validated c))
