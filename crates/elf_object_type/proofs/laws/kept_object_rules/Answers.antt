use Rattle.elf_object_type.proofs.KeepsObjectRules.{object_rules_kept, object_rules_unbroken}
use Rattle.elf_object_type.proofs.laws.kept_object_rules.Goals as goal

pub returns : goal.returns
returns c = record { kept = object_rules_kept; unbroken = object_rules_unbroken }
