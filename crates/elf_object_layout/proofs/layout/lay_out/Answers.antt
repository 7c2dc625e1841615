use Rattle.elf_object_layout.proofs.PlainSections.{shared_names}
use Rattle.elf_object_layout.proofs.layout.lay_out.Goals as goal

pub returns-clause-names : goal.returns-clause-names
returns-clause-names c = shared_names c.args.object.now c.prove_rules.ensures.kept

pub returns-in_err-tables-clause-names : goal.returns-in_err-tables-clause-names
returns-in_err-tables-clause-names c = shared_names c.args.object.now c.prove_rules.ensures.kept
