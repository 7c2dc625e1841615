-- Each test answers of the files that the inputs have, which are the objects.
use Rattle.std.proofs.Common.{rules}
use Rattle.elf_link_names.proofs.validate.validated_inputs.Goals as goal

pub returns-in_err-validate_sections-clause-err : goal.returns-in_err-validate_sections-clause-err
returns-in_err-validate_sections-clause-err c =
    let found = rw c.in_ok-inputs.ensures at c.in_err-validate_sections.ensures in
    search rules

pub returns-in_err-validate_symbols-clause-err : goal.returns-in_err-validate_symbols-clause-err
returns-in_err-validate_symbols-clause-err c =
    let sections = rw c.in_ok-inputs.ensures at c.in_ok-validate_sections.ensures in
    let found = rw c.in_ok-inputs.ensures at c.in_err-validate_symbols.ensures in
    search rules
