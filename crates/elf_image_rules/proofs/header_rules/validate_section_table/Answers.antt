use Rattle.std.proofs.Common.{inl, refl}
use Rattle.elf_image_rules.specs.Rules.{section_table_rules}
use Rattle.elf_image_rules.proofs.header_rules.validate_section_table.Goals as goal

pub returns-in-Some-clause-fault : goal.returns-in-Some-clause-fault
unfolding section_table_rules
returns-in-Some-clause-fault c = rw c.new.ensures (inl (refl, c.in-Some.ensures))
