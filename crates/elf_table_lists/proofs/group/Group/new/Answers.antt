use Rattle.elf_image_rules.proofs.Public.{one_fault}
use Rattle.elf_table_lists.specs.Groups.{group_section_rules}
use Rattle.elf_table_symbols.proofs.Public.{its_file, tested_told}
use Rattle.elf_table_symbols.specs.Sections.{sections_of}
use Rattle.std.proofs.Common.{rules}
use Rattle.elf_table_lists.proofs.group.Group.new.Goals as goal

pub returns-in_err-validate_group_section-clause-validated : goal.returns-in_err-validate_group_section-clause-validated
returns-in_err-validate_group_section-clause-validated c =
    tested_told {S = Unit {0}} _ _ (λ _. Unit {0}) _ _ _ c.in_err-validate_group_section.ensures.validated c.from_residual.ensures.1

pub returns-in_err-validate_group_section-clause-file : goal.returns-in_err-validate_group_section-clause-file
returns-in_err-validate_group_section-clause-file c =
    let f = sections_of c.args.image.now in (
      f,
      its_file c.args.image.now c.prove_stands.ensures,
      (one_fault (group_section_rules f c.args.i), returns-in_err-validate_group_section-clause-validated c),
    )

pub returns-clause-validated : goal.returns-clause-validated
returns-clause-validated c = search rules

pub returns-clause-file : goal.returns-clause-file
returns-clause-file c =
    let f = sections_of c.args.image.now in
    (f, its_file c.args.image.now c.prove_stands.ensures, (one_fault (group_section_rules f c.args.i), returns-clause-validated c))
