use Rattle.std.proofs.Common.{subst}
use Rattle.elf_image_rules.specs.Rules.{AreEnds}
use Rattle.elf_image_rules.proofs.ImageRules.{FirstIn-stop, FirstIn-handed, from_section_table, from_program_table, from_entries}
use Rattle.elf_image_rules.proofs.image_rules.validate_tables.Goals as goal

pub returns-in_err-validate_section_table-clause-fault : goal.returns-in_err-validate_section_table-clause-fault
returns-in_err-validate_section_table-clause-fault c =
    from_section_table c.args.bytes.now c.args.header.now _ _ c.section_at-first.ensures
    (FirstIn-stop _ _ _ _ c.in_err-validate_section_table.ensures.fault c.from_residual.ensures.1)

pub returns-in_err-validate_program_table-clause-fault : goal.returns-in_err-validate_program_table-clause-fault
returns-in_err-validate_program_table-clause-fault c =
    from_program_table c.args.bytes.now c.args.header.now _ _ c.section_at-first.ensures
    c.in_ok-validate_section_table.ensures.fault
    (FirstIn-stop _ _ _ _ c.in_err-validate_program_table.ensures.fault
    c.from_residual-in_err-validate_program_table.ensures.1)

pub returns-in_err-validate_entries-clause-fault : goal.returns-in_err-validate_entries-clause-fault
returns-in_err-validate_entries-clause-fault c =
    from_entries c.args.bytes.now c.args.header.now _ _ _ c.section_at-first.ensures c.counts_of-counts.ensures.value
    c.in_ok-validate_section_table.ensures.fault c.in_ok-validate_program_table.ensures.fault
    (FirstIn-handed _ _ _
    (c.in_err-validate_entries.ensures _ (subst (AreEnds c.ends_of-ends.result) c.names_of.ensures.names c.ends_of-ends.ensures))
    c.from_residual-in_err-validate_entries.ensures.1)

pub returns-clause-fault : goal.returns-clause-fault
returns-clause-fault c =
    from_entries c.args.bytes.now c.args.header.now _ _ _ c.section_at-first.ensures c.counts_of-counts.ensures.value
    c.in_ok-validate_section_table.ensures.fault c.in_ok-validate_program_table.ensures.fault
    (c.in_ok-validate_entries.ensures _ (subst (AreEnds c.ends_of-ends.result) c.names_of.ensures.names c.ends_of-ends.ensures))
