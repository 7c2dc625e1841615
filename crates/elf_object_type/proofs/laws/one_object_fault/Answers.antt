use Rattle.elf_image_rules.proofs.Public.{one_fault}
use Rattle.elf_object_type.specs.ObjectRules.{object_rules}
use Rattle.elf_object_type.proofs.ObjectDecided.{object_fault}
use Rattle.elf_object_type.proofs.laws.one_object_fault.Goals as goal

pub returns-clause-one : goal.returns-clause-one
returns-clause-one c = λ o x y. one_fault (object_rules o) x y

pub returns-clause-some : goal.returns-clause-some
returns-clause-some c = object_fault
