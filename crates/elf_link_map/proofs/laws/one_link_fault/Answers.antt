use Rattle.elf_link_files.proofs.Public.{some_site}
use Rattle.elf_link_names.specs.Binds.{input_rules}
use Rattle.elf_link_map.proofs.Plans.{one_link_fault, some_link_fault}
use Rattle.elf_link_map.proofs.laws.one_link_fault.Goals as goal

pub returns : goal.returns
returns c = record { some_input = λ opt fs. some_site (input_rules opt fs); some = some_link_fault; one = one_link_fault }
