use Rattle.elf_image_rules.proofs.Public.{one_fault}
use Rattle.elf_table_hash.specs.HashRules.{hash_table_rules}
use Rattle.elf_table_symbols.proofs.Public.{its_file, tested_told}
use Rattle.elf_table_symbols.specs.Sections.{sections_of}
use Rattle.std.proofs.Common.{rules}
use Rattle.elf_table_hash.proofs.hash.Hash.new.Goals as goal

pub returns-in_err-validate_hash_table-clause-validated : goal.returns-in_err-validate_hash_table-clause-validated
returns-in_err-validate_hash_table-clause-validated c =
    tested_told {S = Unit {0}} _ _ (λ _. Unit {0}) _ _ _ c.in_err-validate_hash_table.ensures.validated c.from_residual.ensures.1

pub returns-in_err-validate_hash_table-clause-file : goal.returns-in_err-validate_hash_table-clause-file
returns-in_err-validate_hash_table-clause-file c =
    let f = sections_of c.args.image.now in (
      f,
      its_file c.args.image.now c.prove_stands.ensures,
      (one_fault (hash_table_rules f c.args.i), returns-in_err-validate_hash_table-clause-validated c),
    )

pub returns-clause-validated : goal.returns-clause-validated
returns-clause-validated c = search rules

pub returns-clause-file : goal.returns-clause-file
returns-clause-file c =
    let f = sections_of c.args.image.now in
    (f, its_file c.args.image.now c.prove_stands.ensures, (one_fault (hash_table_rules f c.args.i), returns-clause-validated c))
