use Rattle.elf_image_rules.proofs.Public.{one_fault, some_fault}
use Rattle.elf_object_reader.specs.FileRules.{file_rules}
use Rattle.elf_object_reader.proofs.laws.one_file_fault.Goals as goal

pub returns : goal.returns
returns c = record { some = λ f. some_fault (file_rules f); one = λ f x y. one_fault (file_rules f) x y }
